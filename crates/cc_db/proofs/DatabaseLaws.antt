-- Two lists of compile commands that have one text are one list.
use Rattle.std.proofs.Common.{◌≡◌, ℕ, ◌+◌, ◌-◌, ◌*◌, ◌/◌, ◌%◌, ◌<◌, Bool, true, false, ◌==◌, List, [], ◌∷◌, ◌++◌, nat_lt, flat_map, codes, drop, get_or, if◌then◌else◌, refl, sym, ap, ◌∙◌, arith, append_assoc, true≢false}
use Rattle.std.specs.List.{join_by}
use Rattle.std.proofs.lemmas.List.{append_cancel_left}
use Rattle.std.proofs.lemmas.Bool.Decides.{nat_tests}
use Rattle.cc_text.specs.Hex.{hex_digit}
use Rattle.cc_host.specs.CompileCommand.{CompileCommandSeen}
use Rattle.cc_db.specs.Database.{control, escape, escaped, string, next_string, array, entry, entry_line, next_entry, database}

-- what has a text is known by the front of a longer one
abbrev IsKnownByFront : {X : Type 0} → (X → List ℕ) → Type 0
IsKnownByFront {X} f = (x y : X) (r t : List ℕ) → f x ++ r ≡ f y ++ t → (x ≡ y) × (r ≡ t)

-- no such text begins with the end
abbrev IsNoEnd : {X : Type 0} → (X → List ℕ) → List ℕ → Type 0
IsNoEnd {X} f end = (x : X) (r t : List ℕ) → f x ++ r ≡ end ++ t → ⊥

-- texts in a row up to an end
each_known : {X : Type 0} (f : X → List ℕ) (end : List ℕ) → IsKnownByFront f → IsNoEnd f end → (xs ys : List X) (r t : List ℕ) → flat_map f xs ++ (end ++ r) ≡ flat_map f ys ++ (end ++ t) → (xs ≡ ys) × (r ≡ t)
each_known f end known stops [] [] r t h = (refl, append_cancel_left end r t h)
each_known f end known stops [] (y ∷ ys) r t h = absurd (stops y (flat_map f ys ++ (end ++ t)) r (sym (h ∙ append_assoc (f y) (flat_map f ys) (end ++ t))))
each_known f end known stops (x ∷ xs) [] r t h = absurd (stops x (flat_map f xs ++ (end ++ r)) t (sym (append_assoc (f x) (flat_map f xs) (end ++ r)) ∙ h))
each_known f end known stops (x ∷ xs) (y ∷ ys) r t h =
    let p = known x y (flat_map f xs ++ (end ++ r)) (flat_map f ys ++ (end ++ t)) (sym (append_assoc (f x) (flat_map f xs) (end ++ r)) ∙ h ∙ append_assoc (f y) (flat_map f ys) (end ++ t)) in
    let q = each_known f end known stops xs ys r t p.1 in
    (ap (λ z. z ∷ xs) p.0 ∙ ap (λ zs. y ∷ zs) q.0, q.1)

after_known : {X : Type 0} (f : X → List ℕ) (front : List ℕ) → IsKnownByFront f → IsKnownByFront (λ x. front ++ f x)
after_known f front known x y r t h = known x y r t (append_cancel_left front (f x ++ r) (f y ++ t) (sym (append_assoc front (f x) r) ∙ h ∙ append_assoc front (f y) t))

-- texts with a separator between, up to an end
joined_known : {X : Type 0} (f : X → List ℕ) (sep end : List ℕ) → IsKnownByFront f → IsNoEnd f end → IsNoEnd (λ x. sep ++ f x) end → (xs ys : List X) (r t : List ℕ) → join_by f sep xs ++ (end ++ r) ≡ join_by f sep ys ++ (end ++ t) → (xs ≡ ys) × (r ≡ t)
joined_known f sep end known stops next [] [] r t h = (refl, append_cancel_left end r t h)
joined_known f sep end known stops next [] (y ∷ ys) r t h = absurd (stops y (flat_map (λ x. sep ++ f x) ys ++ (end ++ t)) r (sym (h ∙ append_assoc (f y) (flat_map (λ x. sep ++ f x) ys) (end ++ t))))
joined_known f sep end known stops next (x ∷ xs) [] r t h = absurd (stops x (flat_map (λ x. sep ++ f x) xs ++ (end ++ r)) t (sym (append_assoc (f x) (flat_map (λ x. sep ++ f x) xs) (end ++ r)) ∙ h))
joined_known f sep end known stops next (x ∷ xs) (y ∷ ys) r t h =
    let p = known x y (flat_map (λ x. sep ++ f x) xs ++ (end ++ r)) (flat_map (λ x. sep ++ f x) ys ++ (end ++ t)) (sym (append_assoc (f x) (flat_map (λ x. sep ++ f x) xs) (end ++ r)) ∙ h ∙ append_assoc (f y) (flat_map (λ x. sep ++ f x) ys) (end ++ t)) in
    let q = each_known (λ x. sep ++ f x) end (after_known f sep known) next xs ys r t p.1 in
    (ap (λ z. z ∷ xs) p.0 ∙ ap (λ zs. y ∷ zs) q.0, q.1)

-- the number of a digit of base 16
abbrev digit_of : ℕ → ℕ
digit_of d = if nat_lt d 58 then d - 48 else d - 87

-- the byte whose escape comes first, and what follows
abbrev read_escape : List ℕ → ℕ × List ℕ
read_escape s =
    if get_or s 0 0 == 92
    then (if get_or s 1 0 == 117 then (digit_of (get_or s 4 0) * 16 + digit_of (get_or s 5 0), drop 6 s) else (get_or s 1 0, drop 2 s))
    else (get_or s 0 0, drop 1 s)

digit_read : (d : ℕ) → d < 16 → digit_of (hex_digit d) ≡ d
digit_read d l = grind (arith, nat_tests)

control_read : (b : ℕ) (r : List ℕ) → b < 32 → read_escape (control b ++ r) ≡ (b, r)
unfolding control
control_read b r l =
    let e : digit_of (hex_digit (b / 16)) * 16 + digit_of (hex_digit (b % 16)) ≡ b = rw (digit_read (b / 16) (omega (arith, l)), digit_read (b % 16) (omega arith)) (omega arith) in
    ap (λ n. (n, r)) e

by_tests : (q s c : Bool) (b : ℕ) (r : List ℕ) → q ≡ (b == 34) → s ≡ (b == 92) → c ≡ nat_lt b 32 → read_escape ((if q then codes "\\\"" else (if s then codes "\\\\" else (if c then control b else b ∷ []))) ++ r) ≡ (b, r)
by_tests true s c b r q e l = let i : b ≡ 34 = grind (arith, nat_tests) in rw i refl
by_tests false true c b r q e l = let i : b ≡ 92 = grind (arith, nat_tests) in rw i refl
by_tests false false true b r q e l = control_read b r (grind (arith, nat_tests))
by_tests false false false b r q e l = rw (sym e) refl

escape_read : (b : ℕ) (r : List ℕ) → read_escape (escape b ++ r) ≡ (b, r)
unfolding escape
escape_read b r = by_tests (b == 34) (b == 92) (nat_lt b 32) b r refl refl refl

escape_known : IsKnownByFront escape
escape_known a b r t h =
    let p : (a, r) ≡ (b, t) = sym (escape_read a r) ∙ ap read_escape h ∙ escape_read b t in
    (ap (λ x. x.0) p, ap (λ x. x.1) p)

-- the first byte of a text
first_differs : (a b : ℕ) (r t : List ℕ) → (a ≡ b → ⊥) → a ∷ r ≡ b ∷ t → ⊥
first_differs a b r t d h = d (ap (λ s. get_or s 0 0) h)

by_tests_front : (q s c : Bool) (b : ℕ) (r t : List ℕ) → q ≡ (b == 34) → (if q then codes "\\\"" else (if s then codes "\\\\" else (if c then control b else b ∷ []))) ++ r ≡ 34 ∷ t → ⊥
unfolding control
by_tests_front true s c b r t q h = first_differs 92 34 _ _ (λ e. omega (arith, e)) h
by_tests_front false true c b r t q h = first_differs 92 34 _ _ (λ e. omega (arith, e)) h
by_tests_front false false true b r t q h = first_differs 92 34 _ _ (λ e. omega (arith, e)) h
by_tests_front false false false b r t q h = true≢false (sym (q ∙ ap (λ n. n == 34) (ap (λ s. get_or s 0 0) h)))

escape_no_end : IsNoEnd escape (codes "\"")
unfolding escape
escape_no_end b r t h = by_tests_front (b == 34) (b == 92) (nat_lt b 32) b r t refl h

string_known : IsKnownByFront string
unfolding string
string_known x y r t h =
    each_known escape (codes "\"") escape_known escape_no_end x y r t
    (sym (append_assoc (escaped x) (codes "\"") r) ∙ append_cancel_left (codes "\"") ((escaped x ++ codes "\"") ++ r) ((escaped y ++ codes "\"") ++ t) h ∙ append_assoc (escaped y) (codes "\"") t)

string_no_end : IsNoEnd string (codes "]")
unfolding string
string_no_end x r t h = first_differs 34 93 _ _ (λ e. omega (arith, e)) h

next_no_end : IsNoEnd next_string (codes "]")
next_no_end x r t h = first_differs 44 93 _ _ (λ e. omega (arith, e)) h

array_known : IsKnownByFront array
unfolding array
array_known x y r t h =
    joined_known string (codes ", ") (codes "]") string_known string_no_end next_no_end x y r t
    (sym (append_assoc (join_by string (codes ", ") x) (codes "]") r) ∙ append_cancel_left (codes "[") ((join_by string (codes ", ") x ++ codes "]") ++ r) ((join_by string (codes ", ") y ++ codes "]") ++ t) h ∙ append_assoc (join_by string (codes ", ") y) (codes "]") t)

-- a value after a fixed text
part_known : {X : Type 0} (f : X → List ℕ) (front : List ℕ) → IsKnownByFront f → (x y : X) (more other : List ℕ) → front ++ (f x ++ more) ≡ front ++ (f y ++ other) → (x ≡ y) × (more ≡ other)
part_known f front known x y more other h = known x y more other (append_cancel_left front (f x ++ more) (f y ++ other) h)

abbrev of_parts : List ℕ → List ℕ → List (List ℕ) → List ℕ → CompileCommandSeen
of_parts d f w o = record { directory = d; file = f; arguments = w; output = o }

same_parts : (x y : CompileCommandSeen) → x.directory ≡ y.directory → x.file ≡ y.file → x.arguments ≡ y.arguments → x.output ≡ y.output → x ≡ y
same_parts x y d f w o =
    ap (λ z. of_parts z x.file x.arguments x.output) d
    ∙ ap (λ z. of_parts y.directory z x.arguments x.output) f
    ∙ ap (λ z. of_parts y.directory y.file z x.output) w
    ∙ ap (λ z. of_parts y.directory y.file y.arguments z) o

-- ten texts in a row, the last one first
in_row : (a s b f d w e o g r : List ℕ) → a ++ s ++ b ++ f ++ d ++ w ++ e ++ o ++ g ++ r ≡ a ++ (s ++ (b ++ (f ++ (d ++ (w ++ (e ++ (o ++ (g ++ r))))))))
in_row a s b f d w e o g r =
    append_assoc (a ++ s ++ b ++ f ++ d ++ w ++ e ++ o) g r
    ∙ append_assoc (a ++ s ++ b ++ f ++ d ++ w ++ e) o (g ++ r)
    ∙ append_assoc (a ++ s ++ b ++ f ++ d ++ w) e (o ++ (g ++ r))
    ∙ append_assoc (a ++ s ++ b ++ f ++ d) w (e ++ (o ++ (g ++ r)))
    ∙ append_assoc (a ++ s ++ b ++ f) d (w ++ (e ++ (o ++ (g ++ r))))
    ∙ append_assoc (a ++ s ++ b) f (d ++ (w ++ (e ++ (o ++ (g ++ r)))))
    ∙ append_assoc (a ++ s) b (f ++ (d ++ (w ++ (e ++ (o ++ (g ++ r))))))
    ∙ append_assoc a s (b ++ (f ++ (d ++ (w ++ (e ++ (o ++ (g ++ r)))))))

-- what has four parts between fixed texts
parts_known : (a b d e g : List ℕ) (x y : CompileCommandSeen) (r t : List ℕ)
    → a ++ string x.directory ++ b ++ string x.file ++ d ++ array x.arguments ++ e ++ string x.output ++ g ++ r
    ≡ a ++ string y.directory ++ b ++ string y.file ++ d ++ array y.arguments ++ e ++ string y.output ++ g ++ t
    → (x ≡ y) × (r ≡ t)
parts_known a b d e g x y r t h =
    let all = sym (in_row a (string x.directory) b (string x.file) d (array x.arguments) e (string x.output) g r) ∙ h
    ∙ in_row a (string y.directory) b (string y.file) d (array y.arguments) e (string y.output) g t in
    let one = part_known string a string_known x.directory y.directory _ _ all in
    let two = part_known string b string_known x.file y.file _ _ one.1 in
    let three = part_known array d array_known x.arguments y.arguments _ _ two.1 in
    let four = part_known string e string_known x.output y.output _ _ three.1 in
    (same_parts x y one.0 two.0 three.0 four.0, append_cancel_left g r t four.1)

entry_known : IsKnownByFront entry
unfolding entry
entry_known x y r t h =
    parts_known (codes "  {\n    \"directory\": ") (codes ",\n    \"file\": ") (codes ",\n    \"arguments\": ") (codes ",\n    \"output\": ") (codes "\n  }") x y r t h

line_no_end : IsNoEnd entry_line (codes "\n]\n")
unfolding entry
line_no_end c r t h = first_differs 32 93 _ _ (λ e. omega (arith, e)) (append_cancel_left (codes "\n") _ _ h)

next_line_no_end : IsNoEnd next_entry (codes "\n]\n")
next_line_no_end c r t h = first_differs 44 10 _ _ (λ e. omega (arith, e)) h

-- two lists of compile commands that have one text are one list
pub one_list : (xs ys : List CompileCommandSeen) → database xs ≡ database ys → xs ≡ ys
unfolding database
one_list xs ys h =
    (joined_known entry_line (codes ",") (codes "\n]\n") (after_known entry (codes "\n") entry_known) line_no_end next_line_no_end xs ys [] []
    (append_cancel_left (codes "[") _ _ h)).0
