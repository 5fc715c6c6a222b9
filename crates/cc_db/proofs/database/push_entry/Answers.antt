use Rattle.std.proofs.Common.{◌≡◌, ℕ, List, ◌++◌, codes, ap, ◌∙◌, append_assoc}
use Rattle.cc_db.specs.Database.{string, array, entry}
use Rattle.cc_db.proofs.database.push_entry.Goals as goal

-- nine texts in a row, after another
in_row : (old a s b f d w e o g : List ℕ) → old ++ a ++ s ++ b ++ f ++ d ++ w ++ e ++ o ++ g ≡ old ++ (a ++ s ++ b ++ f ++ d ++ w ++ e ++ o ++ g)
in_row old a s b f d w e o g =
    ap (λ t. t ++ g) (ap (λ t. t ++ o) (ap (λ t. t ++ e) (ap (λ t. t ++ w) (ap (λ t. t ++ d) (ap (λ t. t ++ f) (ap (λ t. t ++ b) (append_assoc old a s)
    ∙ append_assoc old (a ++ s) b)
    ∙ append_assoc old (a ++ s ++ b) f)
    ∙ append_assoc old (a ++ s ++ b ++ f) d)
    ∙ append_assoc old (a ++ s ++ b ++ f ++ d) w)
    ∙ append_assoc old (a ++ s ++ b ++ f ++ d ++ w) e)
    ∙ append_assoc old (a ++ s ++ b ++ f ++ d ++ w ++ e) o)
    ∙ append_assoc old (a ++ s ++ b ++ f ++ d ++ w ++ e ++ o) g

-- six pushes, of nine texts
pushed : (old a s b f d w e o g t₁ t₂ t₃ t₄ t₅ t₆ : List ℕ) → t₁ ≡ old ++ a ++ s → t₂ ≡ t₁ ++ b ++ f → t₃ ≡ t₂ ++ d → t₄ ≡ t₃ ++ w → t₅ ≡ t₄ ++ e ++ o → t₆ ≡ t₅ ++ g → t₆ ≡ old ++ (a ++ s ++ b ++ f ++ d ++ w ++ e ++ o ++ g)
pushed old a s b f d w e o g t₁ t₂ t₃ t₄ t₅ t₆ p₁ p₂ p₃ p₄ p₅ p₆ =
    p₆ ∙ ap (λ t. t ++ g) (p₅ ∙ ap (λ t. t ++ e ++ o) (p₄ ∙ ap (λ t. t ++ w) (p₃ ∙ ap (λ t. t ++ d) (p₂ ∙ ap (λ t. t ++ b ++ f) p₁))))
    ∙ in_row old a s b f d w e o g

-- what is pushed of a value, by what it is
by_value : {X : Type 0} (f : X → List ℕ) (new front : List ℕ) (x y : X) → new ≡ front ++ f x → x ≡ y → new ≡ front ++ f y
by_value f new front x y e is = e ∙ ap (λ z. front ++ f z) is

pub returns : goal.returns
unfolding entry
returns c =
    pushed c.args.text.now (codes "  {\n    \"directory\": ") (string c.args.command.now.directory) (codes ",\n    \"file\": ") (string c.args.command.now.file)
    (codes ",\n    \"arguments\": ") (array c.args.command.now.arguments) (codes ",\n    \"output\": ") (string c.args.command.now.output) (codes "\n  }")
    c.push_member.new.text c.push_member-2.new.text c.push_str.new.self c.push_array.new.text c.push_member-3.new.text c.push_str-2.new.self
    (by_value string c.push_member.new.text (c.args.text.now ++ codes "  {\n    \"directory\": ") _ _ c.in_ok-push_member.ensures c.directory.ensures)
    (by_value string c.push_member-2.new.text (c.push_member.new.text ++ codes ",\n    \"file\": ") _ _ c.in_ok-push_member-2.ensures c.file.ensures)
    c.in_ok-push_str.ensures.ok
    (by_value array c.push_array.new.text c.push_str.new.self _ _ c.in_ok-push_array.ensures c.arguments.ensures)
    (by_value string c.push_member-3.new.text (c.push_array.new.text ++ codes ",\n    \"output\": ") _ _ c.in_ok-push_member-3.ensures c.output.ensures)
    c.in_ok-push_str-2.ensures.ok
