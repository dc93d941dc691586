-- Clients' names.
use Rattle.std.specs.Prelude.{◌≡◌, ℕ, ◌==◌, nat_le, ◌&&◌, ◌||◌, Bool, true, List, length, slice_index}
use Rattle.std.specs.List.{list_all}

-- a small ASCII letter, and a character that may follow it: a small letter, a digit or `_`
abbrev pub is_small_letter : ℕ → Bool
is_small_letter c = nat_le 97 c && nat_le c 122

abbrev pub is_name_character : ℕ → Bool
is_name_character c = is_small_letter c || (nat_le 48 c && nat_le c 57) || (c == 95)

-- small letters, digits or `_`, at most 16, with a small letter first
abbrev pub is_name : List ℕ → Bool
is_name name = is_small_letter (slice_index name 0) && list_all is_name_character name && nat_le (length name) 16

abbrev pub IsName : List ℕ → Type 0
IsName name = is_name name ≡ true
