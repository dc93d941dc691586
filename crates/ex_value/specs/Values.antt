-- Values: how they compare, how large they are, and their texts. A text is the list of its bytes.
use Rattle.std.specs.Prelude.{ℕ, ◌+◌, ◌/◌, List, [], ◌∷◌, length, Bool, ◌||◌, codes, if◌then◌else◌}
use Rattle.std.specs.declared.cmp.Ordering.{Ordering}
use Rattle.std.specs.declared.cmp.Ordering.TheVariants.{Less, Greater}
use Rattle.std.specs.Ordering.{int_cmp, nat_cmp}
use Rattle.std.specs.Cmp.Lexicographic.{slice_cmp}
use Rattle.std.specs.Str.{bytes_eq}
use Rattle.std.specs.Fmt.{signed_decimal}
use Rattle.ex_value.specs.declared.Value.{Value}
use Rattle.ex_value.specs.declared.Value.TheVariants.{Int, Atom}

-- the value of an empty body
abbrev pub nil : Value
nil = Atom (codes "nil")

-- the order of terms: numbers before atoms, numbers by value, atoms by their bytes, a beginning first
abbrev pub order_of : Value → Value → Ordering
order_of (Int a) (Int b) = int_cmp a b
order_of (Int a) (Atom t) = Less
order_of (Atom s) (Int b) = Greater
order_of (Atom s) (Atom t) = slice_cmp nat_cmp s t

-- the size in units
abbrev pub size_of : Value → ℕ
size_of (Int z) = 1
size_of (Atom t) = 1 + length t / 16

-- whether an atom's text is a word that stands for it in a source
abbrev pub is_value_word : List ℕ → Bool
is_value_word t = bytes_eq t (codes "nil") || bytes_eq t (codes "true") || bytes_eq t (codes "false")

-- an atom in a source: its word, or a colon and its text
abbrev pub atom_inspected : List ℕ → List ℕ
atom_inspected t = if is_value_word t then t else 58 ∷ t

-- a value as an expression that gives it
abbrev pub inspected : Value → List ℕ
inspected (Int z) = signed_decimal z
inspected (Atom t) = atom_inspected t

-- a value as a text for readers
abbrev pub displayed : Value → List ℕ
displayed (Int z) = signed_decimal z
displayed (Atom t) = if bytes_eq t (codes "nil") then [] else t
