-- Words as a POSIX shell quotes them. First the quotes and escapes: each character has a mark. Then the words, by the marks.
use Rattle.std.specs.Prelude.{ℕ, Bool, true, false, ◌==◌, ◌||◌, List, [], ◌∷◌, ◌++◌, Option, Some, None, if◌then◌else◌, encode_utf8}
use Rattle.std.specs.Str.{chars}
use Rattle.cc_text.specs.declared.shell.Mode.{Mode}
use Rattle.cc_text.specs.declared.shell.Mode.TheVariants.{Between, Inside, Escaped, Single, Double, DoubleEscaped, Comment}
use Rattle.cc_text.specs.declared.shell.Mark.{Mark}
use Rattle.cc_text.specs.declared.shell.Mark.TheVariants.{Nothing, Ends, Begins, Adds, AddsEscaped, Drops}

-- the line feed
abbrev pub line_feed : ℕ
line_feed = 10

-- `"`
abbrev pub double_quote : ℕ
double_quote = 34

-- `#`
abbrev pub hash_sign : ℕ
hash_sign = 35

-- `$`
abbrev pub dollar : ℕ
dollar = 36

-- `'`
abbrev pub single_quote : ℕ
single_quote = 39

-- `\`
abbrev pub backslash : ℕ
backslash = 92

-- the backquote
abbrev pub backquote : ℕ
backquote = 96

-- space, tab or line feed
abbrev pub is_blank : ℕ → Bool
is_blank c = c == 32 || c == 9 || c == line_feed

-- a backslash in double quotes escapes it
abbrev pub is_escapable : ℕ → Bool
is_escapable c = c == dollar || c == backquote || c == double_quote || c == backslash

-- the mark of a character, and the mode after it
abbrev pub step : Mode → ℕ → Mark × Mode
step Between c =
    if is_blank c then (Nothing, Between)
    else (if c == hash_sign then (Nothing, Comment)
    else (if c == backslash then (Nothing, Escaped)
    else (if c == single_quote then (Begins, Single)
    else (if c == double_quote then (Begins, Double)
    else (Adds c, Inside)))))
step Inside c =
    if is_blank c then (Ends, Between)
    else (if c == backslash then (Nothing, Escaped)
    else (if c == single_quote then (Begins, Single)
    else (if c == double_quote then (Begins, Double)
    else (Adds c, Inside))))
step Escaped c = if c == line_feed then (Begins, Inside) else (Adds c, Inside)
step Single c = if c == single_quote then (Nothing, Inside) else (Adds c, Single)
step Double c =
    if c == double_quote then (Nothing, Inside)
    else (if c == backslash then (Nothing, DoubleEscaped)
    else (Adds c, Double))
step DoubleEscaped c =
    if c == line_feed then (Nothing, Double)
    else (if is_escapable c then (Adds c, Double)
    else (AddsEscaped c, Double))
step Comment c = if c == line_feed then (Nothing, Between) else (Nothing, Comment)

-- a quote is open, or a backslash is last
abbrev pub is_open : Mode → Bool
is_open Between = false
is_open Inside = false
is_open Escaped = true
is_open Single = true
is_open Double = true
is_open DoubleEscaped = true
is_open Comment = false

-- what the end of the text does: the word in work ends, or is dropped
abbrev pub ending : Mode → Mark
ending mode = if is_open mode then Drops else Ends

-- the marks of a text's characters, and that of its end
unfoldable pub marks : Mode → List ℕ → List Mark
marks mode [] = ending mode ∷ []
marks mode (c ∷ cs) = (step mode c).0 ∷ marks (step mode c).1 cs

-- the text of the word in work, if there is one
abbrev pub so_far : Option (List ℕ) → List ℕ
so_far None = []
so_far (Some word) = word

-- the words of some marks, with a word in work
abbrev pub words_of : List Mark → Option (List ℕ) → List (List ℕ)
words_of [] word = []
words_of (Nothing ∷ ms) word = words_of ms word
words_of (Ends ∷ ms) None = words_of ms None
words_of (Ends ∷ ms) (Some word) = word ∷ words_of ms None
words_of (Begins ∷ ms) word = words_of ms (Some (so_far word))
words_of (Adds c ∷ ms) word = words_of ms (Some (so_far word ++ encode_utf8 c))
words_of (AddsEscaped c ∷ ms) word = words_of ms (Some (so_far word ++ encode_utf8 backslash ++ encode_utf8 c))
words_of (Drops ∷ ms) word = words_of ms None

-- the words of a text
unfoldable pub shell_words : List ℕ → List (List ℕ)
shell_words s = words_of (marks Between (chars s)) None
