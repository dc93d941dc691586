-- Values as texts: as they are written in a source, and for readers. A text is the list of its bytes, which are those of its characters.
use Rattle.std.specs.Prelude.{ℕ, ◌+◌, ◌/◌, ◌%◌, ◌==◌, nat_lt, ◌&&◌, ◌||◌, if◌then◌else◌, Bool, true, false, List, [], ◌∷◌, ◌++◌, Option, Some, None, codes, chars, encode_utf8_all}
use Rattle.std.specs.List.{list_all}
use Rattle.std.specs.Str.{bytes_eq}
use Rattle.std.specs.Fmt.{signed_decimal}
use Rattle.ex_grammar.specs.Texts.{first_is}
use Rattle.ex_grammar.specs.Names.{begins_name, is_in_name, is_mark, is_capital, is_alias_byte}
use Rattle.ex_terms.specs.Terms.{Term, Terms, AnInteger, AnAtom, AText, ATuple, AList, NoTerm, OneMore}

-- whether an atom's text is a word that stands for it in a source
abbrev pub is_value_word : List ℕ → Bool
is_value_word t = bytes_eq t (codes "nil") || (bytes_eq t (codes "true") || bytes_eq t (codes "false"))

-- whether characters may stand in a name after its first; a `!` or `?` may stand last
abbrev pub goes_on : List ℕ → Bool
goes_on [] = true
goes_on (c ∷ []) = is_in_name c || is_mark c
goes_on (c ∷ d ∷ cs) = is_in_name c && goes_on (d ∷ cs)

-- whether characters are a name
abbrev pub is_name : List ℕ → Bool
is_name [] = false
is_name (c ∷ cs) = begins_name c && goes_on cs

-- whether bytes are an alias
abbrev pub is_alias : List ℕ → Bool
is_alias [] = false
is_alias (b ∷ bs) = is_capital b && list_all is_alias_byte bs

-- a hexadecimal digit, in capitals
abbrev pub hex_digit : ℕ → ℕ
hex_digit n = if nat_lt n 10 then 48 + n else 55 + n

-- `"`
abbrev pub quote : ℕ
quote = 34

-- a character below 32 between quotes: `\u00` and two digits
abbrev pub coded_char : ℕ → List ℕ
coded_char c = codes "\\u00" ++ hex_digit (c / 16) ∷ hex_digit (c % 16) ∷ []

-- a line feed, a tab, a carriage return, `"` and `\` between quotes; any other character has no such escape
abbrev pub short_escape : ℕ → Option (List ℕ)
short_escape c =
    if c == 10 then Some (codes "\\n")
    else (if c == 9 then Some (codes "\\t")
    else (if c == 13 then Some (codes "\\r")
    else (if c == 34 then Some (codes "\\\"")
    else (if c == 92 then Some (codes "\\\\") else None))))

-- a character below 32 by its number, any other as itself
abbrev pub plain_char : ℕ → List ℕ
plain_char c = if nat_lt c 32 then coded_char c else c ∷ []

-- a character between quotes, by whether a `{` follows it: by its short escape, the `#` of a `#{` behind a `\`, any other plain
abbrev pub escaped_by : Option (List ℕ) → ℕ → Bool → List ℕ
escaped_by (Some escape) c brace = escape
escaped_by None c brace = if (c == 35) && brace then codes "\\#" else plain_char c

abbrev pub escaped : ℕ → Bool → List ℕ
escaped c brace = escaped_by (short_escape c) c brace

-- the characters of a text between its quotes
abbrev pub inner : List ℕ → List ℕ
inner [] = []
inner (c ∷ cs) = escaped c (first_is (λ d. d == 123) cs) ++ inner cs

-- the same where a `#` still waits for what follows it
abbrev pub pending : Bool → List ℕ → List ℕ
pending waits cs = if waits then inner (35 ∷ cs) else inner cs

abbrev pub waiting : Bool → Bool → List ℕ
waiting waits brace = if waits then escaped 35 brace else []

-- a text in quotes
abbrev pub quoted : List ℕ → List ℕ
quoted t = quote ∷ (encode_utf8_all (inner (chars t)) ++ quote ∷ [])

-- an atom's text behind its colon: in quotes unless it is a name or an alias
abbrev pub atom_text : List ℕ → List ℕ
atom_text t = if is_name (chars t) || is_alias t then t else quoted t

-- an atom in a source: its word, or a colon and its text
abbrev pub atom_inspected : List ℕ → List ℕ
atom_inspected t = if is_value_word t then t else 58 ∷ atom_text t

-- a value as it is written in a source; the items of a tuple or a list with commas between them
abbrev mutual
  pub inspected : Term → List ℕ
  inspected (AnInteger z) = signed_decimal z
  inspected (AnAtom t) = atom_inspected t
  inspected (AText t) = quoted t
  inspected (ATuple ts) = 123 ∷ (all_inspected ts ++ 125 ∷ [])
  inspected (AList ts) = 91 ∷ (all_inspected ts ++ 93 ∷ [])

  pub all_inspected : Terms → List ℕ
  all_inspected NoTerm = []
  all_inspected (OneMore t ts) = inspected t ++ more_inspected ts

  pub more_inspected : Terms → List ℕ
  more_inspected NoTerm = []
  more_inspected (OneMore t ts) = 44 ∷ 32 ∷ (inspected t ++ more_inspected ts)

-- what stands before an item, and the items that are left with what stands before them
abbrev pub comma : Bool → List ℕ
comma is_first = if is_first then [] else 44 ∷ 32 ∷ []

abbrev pub items_left : Bool → Terms → List ℕ
items_left is_first ts = if is_first then all_inspected ts else more_inspected ts

-- a value as a text for readers: an integer, an atom's text, of which `nil` has none, and a text itself; a tuple or a list has none
abbrev pub atom_displayed : List ℕ → List ℕ
atom_displayed t = if bytes_eq t (codes "nil") then [] else t

abbrev pub displayed : Term → Option (List ℕ)
displayed (AnInteger z) = Some (signed_decimal z)
displayed (AnAtom t) = Some (atom_displayed t)
displayed (AText t) = Some t
displayed (ATuple ts) = None
displayed (AList ts) = None
