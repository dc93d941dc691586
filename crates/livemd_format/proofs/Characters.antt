-- Texts as characters and as bytes: what tests of ASCII bytes find in either, and that tidy bytes are characters again.
use Rattle.std.proofs.Common.{◌≡◌, ℕ, ◌+◌, ◌<◌, ◌≤◌, suc, zero, Bool, true, false, ◌&&◌, ◌||◌, cond, List, [], ◌∷◌, ◌++◌, Option, Some, None, length, map, replicate, refl, sym, ap, ◌∙◌, arith, subst, append_assoc}
use Rattle.std.proofs.Math.Utf8.{scalar, scalars}
use Rattle.std.specs.Prelude.{◌==◌, ◌/◌, ◌%◌, nat_lt, chars, encode_utf8_all, get_or, take, drop, slice_index}
use Rattle.std.specs.Char.{encode_utf8}
use Rattle.std.specs.List.{AllByRecursion, list_any}
use Rattle.std.specs.Str.{IsUtf8}
use Rattle.std.proofs.lemmas.Bool.Decides.{nat_tests}
use Rattle.std.proofs.lemmas.List.{map-append, get_or_at, take_at, drop_at, length_push, length-append}
use Rattle.std.proofs.lemmas.Str.{IsUtf8-append, IsUtf8-nil, IsUtf8-take, IsUtf8-drop, IsUtf8-from_ascii, IsCharBoundary-before_ascii, IsCharBoundary-after_ascii, chars-encodes, encode_ascii, encodes-chars}
use Rattle.utf16_text.specs.Units.{AreScalars}
use Rattle.utf16_text.proofs.Scalars.{are_scalars-is}
use Rattle.livemd_lines.specs.declared.fences.Fence.{Fence}
use Rattle.livemd_lines.specs.declared.fences.Mark.{Mark}
use Rattle.livemd_lines.specs.declared.fences.Mark.TheVariants.{Backtick, Tilde}
use Rattle.blanks.specs.Blanks.{drop_end, drop_front, is_blank, is_cr, is_empty, is_space, is_space_or_tab}
use Rattle.livemd_lines.specs.Lines.{is_lf, joined}
use Rattle.livemd_lines.specs.Kinds.{byte_of}
use Rattle.livemd_lines.specs.Written.{HasNoFeed, open_behind}
use Rattle.livemd_format.specs.Tidy.{changed, clean, clean_pieces, closed, closing_lines, pieces, spaced, tidy_markdown, tidy_name, unblanked}
use Rattle.livemd_format.proofs.Trimming.{all_end, all_front, all_more, joined-pieces}

-- ---- a test that only ASCII passes

abbrev pub IsAsciiTest : (ℕ → Bool) → Type 0
IsAsciiTest p = (b : ℕ) → p b ≡ true → b < 128

abbrev AreHigh : List ℕ → Type 0
AreHigh bs = AllByRecursion (λ b. 128 ≤ b) bs

fails_high : (p : ℕ → Bool) → IsAsciiTest p → (b : ℕ) → 128 ≤ b → p b ≡ false
fails_high p ascii b h =
    elim (p b)
    as (λ v. p b ≡ v → v ≡ false)
    [ true ↦ λ e. absurd (omega (arith, ascii b e)) | false ↦ λ e. refl ]
    refl

is_byte_ascii : (b c : ℕ) → c < 128 → (b == c) ≡ true → b < 128
is_byte_ascii b c h e = grind (arith, nat_tests)

or_ascii : (p q : Bool) (b : ℕ) → (p ≡ true → b < 128) → (q ≡ true → b < 128) → (p || q) ≡ true → b < 128
or_ascii true q b f g h = f refl
or_ascii false q b f g h = g h

lf_ascii : IsAsciiTest is_lf
lf_ascii b h = is_byte_ascii b 10 (omega arith) h

pub cr_ascii : IsAsciiTest is_cr
cr_ascii b h = is_byte_ascii b 13 (omega arith) h

space_ascii : IsAsciiTest is_space
space_ascii b h = is_byte_ascii b 32 (omega arith) h

pub space_or_tab_ascii : IsAsciiTest is_space_or_tab
space_or_tab_ascii b h = or_ascii (b == 32) (b == 9) b (is_byte_ascii b 32 (omega arith)) (is_byte_ascii b 9 (omega arith)) h

-- ---- the bytes of a character

-- bytes that aren't ASCII, one at least
record AreSomeHigh (bs : List ℕ) : Type 0 where
  first : ℕ
  more : List ℕ
  parts : bs ≡ first ∷ more
  high : 128 ≤ first
  rest : AreHigh more

low_test : (c : ℕ) → 128 ≤ c → nat_lt c 128 ≡ false
low_test c h = grind (arith, nat_tests)

low_of : (c : ℕ) → nat_lt c 128 ≡ true → c < 128
low_of c h = grind (arith, nat_tests)

high_of : (c : ℕ) → nat_lt c 128 ≡ false → 128 ≤ c
high_of c h = grind (arith, nat_tests)

abbrev next : ℕ → ℕ
next bits = 128 + bits % 64

shaped : (c : ℕ) (a b d : Bool) → a ≡ false → AreSomeHigh (cond a (c ∷ []) (cond b ((192 + c / 64) ∷ next c ∷ []) (cond d ((224 + c / 4096) ∷ next (c / 64) ∷ next c ∷ []) ((240 + c / 262144) ∷ next (c / 4096) ∷ next (c / 64) ∷ next c ∷ []))))
shaped c true b d e = absurd cc
shaped c false true d e = record { first = 192 + c / 64; more = next c ∷ []; parts = refl; high = omega arith; rest = (omega arith, tt) }
shaped c false false true e = record { first = 224 + c / 4096; more = next (c / 64) ∷ next c ∷ []; parts = refl; high = omega arith; rest = (omega arith, (omega arith, tt)) }
shaped c false false false e = record { first = 240 + c / 262144; more = next (c / 4096) ∷ next (c / 64) ∷ next c ∷ []; parts = refl; high = omega arith; rest = (omega arith, (omega arith, (omega arith, tt))) }

-- a character that isn't ASCII has only bytes that aren't
high_bytes : (c : ℕ) → 128 ≤ c → AreSomeHigh (encode_utf8 c)
unfolding encode_utf8
high_bytes c h = shaped c (nat_lt c 128) (nat_lt c 2048) (nat_lt c 65536) (low_test c h)

-- ---- the same at characters and at their bytes

not_none : (c : ℕ) (b : Bool) (bs : List ℕ) → nat_lt c 128 ≡ b → is_empty (encode_utf8 c ++ bs) ≡ false
not_none c true bs e = ap (λ w. is_empty (w ++ bs)) (encode_ascii c (low_of c e))
not_none c false bs e = let s = high_bytes c (high_of c e) in ap (λ w. is_empty (w ++ bs)) s.parts

empty_encoded : (cs : List ℕ) → is_empty (encode_utf8_all cs) ≡ is_empty cs
empty_encoded [] = refl
empty_encoded (c ∷ cs) = not_none c (nat_lt c 128) (encode_utf8_all cs) refl

past_high : (p : ℕ → Bool) → IsAsciiTest p → (hs rest : List ℕ) → AreHigh hs → drop_end p (hs ++ rest) ≡ hs ++ drop_end p rest
past_high p ascii [] rest h = refl
past_high p ascii (b ∷ hs) rest h = rw (fails_high p ascii b h.0) (ap (λ w. b ∷ w) (past_high p ascii hs rest h.1))

some_high : (bs : List ℕ) → AreSomeHigh bs → AreHigh bs
some_high bs s = rw s.parts (s.high, s.rest)

end_if : (c : ℕ) (cs : List ℕ) (t : Bool) → c < 128 → cond t [] (c ∷ encode_utf8_all cs) ≡ encode_utf8_all (cond t [] (c ∷ cs))
end_if c cs true h = refl
end_if c cs false h = sym (ap (λ w. w ++ encode_utf8_all cs) (encode_ascii c h))

end_step : (p : ℕ → Bool) → IsAsciiTest p → (c : ℕ) (cs : List ℕ) (b : Bool) → nat_lt c 128 ≡ b → drop_end p (encode_utf8_all cs) ≡ encode_utf8_all (drop_end p cs) → drop_end p (encode_utf8 c ++ encode_utf8_all cs) ≡ encode_utf8_all (drop_end p (c ∷ cs))
end_step p ascii c cs true e h =
    let low : c < 128 = low_of c e in
    ap (λ w. drop_end p (w ++ encode_utf8_all cs)) (encode_ascii c low)
    ∙ (ap (λ w. cond (p c && is_empty w) [] (c ∷ w)) h
    ∙ (ap (λ (v : Bool). cond (p c && v) [] (c ∷ encode_utf8_all (drop_end p cs))) (empty_encoded (drop_end p cs))
    ∙ end_if c (drop_end p cs) (p c && is_empty (drop_end p cs)) low))
end_step p ascii c cs false e h =
    past_high p ascii (encode_utf8 c) (encode_utf8_all cs) (some_high (encode_utf8 c) (high_bytes c (high_of c e)))
    ∙ (ap (λ w. encode_utf8 c ++ w) h
    ∙ ap (λ (v : Bool). encode_utf8_all (cond (v && is_empty (drop_end p cs)) [] (c ∷ drop_end p cs))) (sym (fails_high p ascii c (high_of c e))))

pub end_encoded : (p : ℕ → Bool) → IsAsciiTest p → (cs : List ℕ) → drop_end p (encode_utf8_all cs) ≡ encode_utf8_all (drop_end p cs)
end_encoded p ascii [] = refl
end_encoded p ascii (c ∷ cs) = end_step p ascii c cs (nat_lt c 128) refl (end_encoded p ascii cs)

stays_high : (p : ℕ → Bool) → IsAsciiTest p → (bs rest : List ℕ) → AreSomeHigh bs → drop_front p (bs ++ rest) ≡ bs ++ rest
stays_high p ascii bs rest s = rw (s.parts, fails_high p ascii s.first s.high) refl

front_if : (c : ℕ) (cs ds : List ℕ) (t : Bool) → c < 128 → cond t (encode_utf8_all ds) (c ∷ encode_utf8_all cs) ≡ encode_utf8_all (cond t ds (c ∷ cs))
front_if c cs ds true h = refl
front_if c cs ds false h = sym (ap (λ w. w ++ encode_utf8_all cs) (encode_ascii c h))

front_step : (p : ℕ → Bool) → IsAsciiTest p → (c : ℕ) (cs : List ℕ) (b : Bool) → nat_lt c 128 ≡ b → drop_front p (encode_utf8_all cs) ≡ encode_utf8_all (drop_front p cs) → drop_front p (encode_utf8 c ++ encode_utf8_all cs) ≡ encode_utf8_all (drop_front p (c ∷ cs))
front_step p ascii c cs true e h =
    let low : c < 128 = low_of c e in
    ap (λ w. drop_front p (w ++ encode_utf8_all cs)) (encode_ascii c low)
    ∙ (ap (λ w. cond (p c) w (c ∷ encode_utf8_all cs)) h ∙ front_if c cs (drop_front p cs) (p c) low)
front_step p ascii c cs false e h =
    stays_high p ascii (encode_utf8 c) (encode_utf8_all cs) (high_bytes c (high_of c e))
    ∙ ap (λ (v : Bool). encode_utf8_all (cond v (drop_front p cs) (c ∷ cs))) (sym (fails_high p ascii c (high_of c e)))

pub front_encoded : (p : ℕ → Bool) → IsAsciiTest p → (cs : List ℕ) → drop_front p (encode_utf8_all cs) ≡ encode_utf8_all (drop_front p cs)
front_encoded p ascii [] = refl
front_encoded p ascii (c ∷ cs) = front_step p ascii c cs (nat_lt c 128) refl (front_encoded p ascii cs)

or_first : (a b : Bool) → (a || b) ≡ false → a ≡ false
or_first true b h = absurd cc
or_first false b h = refl

or_second : (a b : Bool) → (a || b) ≡ false → b ≡ false
or_second true b h = absurd cc
or_second false b h = h

none_high : (p : ℕ → Bool) → IsAsciiTest p → (hs rest : List ℕ) → AreHigh hs → list_any p (hs ++ rest) ≡ list_any p rest
none_high p ascii [] rest h = refl
none_high p ascii (b ∷ hs) rest h = rw (fails_high p ascii b h.0) (none_high p ascii hs rest h.1)

none_step : (p : ℕ → Bool) → IsAsciiTest p → (c : ℕ) (cs : List ℕ) (b : Bool) → nat_lt c 128 ≡ b → p c ≡ false → list_any p (encode_utf8_all cs) ≡ false → list_any p (encode_utf8 c ++ encode_utf8_all cs) ≡ false
none_step p ascii c cs true e f h = ap (λ w. list_any p (w ++ encode_utf8_all cs)) (encode_ascii c (low_of c e)) ∙ (rw f h)
none_step p ascii c cs false e f h = none_high p ascii (encode_utf8 c) (encode_utf8_all cs) (some_high (encode_utf8 c) (high_bytes c (high_of c e))) ∙ h

pub none_encoded : (p : ℕ → Bool) → IsAsciiTest p → (cs : List ℕ) → list_any p cs ≡ false → list_any p (encode_utf8_all cs) ≡ false
none_encoded p ascii [] h = refl
none_encoded p ascii (c ∷ cs) h = none_step p ascii c cs (nat_lt c 128) refl (or_first (p c) (list_any p cs) h) (none_encoded p ascii cs (or_second (p c) (list_any p cs) h))

-- a text without line feed, by the test and by recursion
pub feed_of_none : (cs : List ℕ) → list_any is_lf cs ≡ false → HasNoFeed cs
feed_of_none [] h = tt
feed_of_none (c ∷ cs) h = (or_first (is_lf c) (list_any is_lf cs) h, feed_of_none cs (or_second (is_lf c) (list_any is_lf cs) h))

none_of_feed : (cs : List ℕ) → HasNoFeed cs → list_any is_lf cs ≡ false
none_of_feed [] h = refl
none_of_feed (c ∷ cs) h = rw h.0 (none_of_feed cs h.1)

pub feed_encoded : (cs : List ℕ) → HasNoFeed cs → HasNoFeed (encode_utf8_all cs)
feed_encoded cs h = feed_of_none (encode_utf8_all cs) (none_encoded is_lf lf_ascii cs (none_of_feed cs h))

-- ---- texts that stay characters

pub utf8_of : (t : List ℕ) → AreScalars t → IsUtf8 (encode_utf8_all t)
utf8_of t h = (t, (sym (are_scalars-is t) ∙ h, refl))

pub same_text : (t : List ℕ) → AreScalars t → chars (encode_utf8_all t) ≡ t
same_text t h = chars-encodes t (sym (are_scalars-is t) ∙ h)

pub changed_bytes : (f : List ℕ → List ℕ) (t : List ℕ) → IsUtf8 (f (encode_utf8_all t)) → encode_utf8_all (changed f t) ≡ f (encode_utf8_all t)
changed_bytes f t h = encodes-chars (f (encode_utf8_all t)) h

pub changed_text : (f : List ℕ → List ℕ) (t : List ℕ) → IsUtf8 (f (encode_utf8_all t)) → chars (encode_utf8_all (changed f t)) ≡ changed f t
changed_text f t h = ap chars (changed_bytes f t h)

and_first : (a b : Bool) → (a && b) ≡ true → a ≡ true
and_first true b e = refl
and_first false b e = e

and_second : (a b : Bool) → (a && b) ≡ true → b ≡ true
and_second true b e = e
and_second false b e = absurd cc

scalars_if : (c : ℕ) (cs : List ℕ) (t : Bool) → scalar c ≡ true → scalars cs ≡ true → scalars (cond t [] (c ∷ cs)) ≡ true
scalars_if c cs true g h = refl
scalars_if c cs false g h = rw g h

scalars_end : (p : ℕ → Bool) (cs : List ℕ) → scalars cs ≡ true → scalars (drop_end p cs) ≡ true
scalars_end p [] h = refl
scalars_end p (c ∷ cs) h = scalars_if c (drop_end p cs) (p c && is_empty (drop_end p cs)) (and_first (scalar c) (scalars cs) h) (scalars_end p cs (and_second (scalar c) (scalars cs) h))

scalars_front_if : (cs ds : List ℕ) (t : Bool) → scalars cs ≡ true → scalars ds ≡ true → scalars (cond t ds cs) ≡ true
scalars_front_if cs ds true g h = h
scalars_front_if cs ds false g h = g

scalars_front : (p : ℕ → Bool) (cs : List ℕ) → scalars cs ≡ true → scalars (drop_front p cs) ≡ true
scalars_front p [] h = refl
scalars_front p (c ∷ cs) h = scalars_front_if (c ∷ cs) (drop_front p cs) (p c) h (scalars_front p cs (and_second (scalar c) (scalars cs) h))

end_utf8 : (p : ℕ → Bool) → IsAsciiTest p → (bs : List ℕ) → IsUtf8 bs → IsUtf8 (drop_end p bs)
end_utf8 p ascii bs (cs, (s, e)) = (drop_end p cs, (scalars_end p cs s, sym (end_encoded p ascii cs) ∙ ap (drop_end p) e))

front_utf8 : (p : ℕ → Bool) → IsAsciiTest p → (bs : List ℕ) → IsUtf8 bs → IsUtf8 (drop_front p bs)
front_utf8 p ascii bs (cs, (s, e)) = (drop_front p cs, (scalars_front p cs s, sym (front_encoded p ascii cs) ∙ ap (drop_front p) e))

-- a text may be cut at ASCII, and put together there
cut_at_ascii : (xs ys : List ℕ) (c : ℕ) → c < 128 → IsUtf8 (xs ++ c ∷ ys) → IsUtf8 xs × IsUtf8 ys
cut_at_ascii xs ys c low u =
    let bs : List ℕ = xs ++ c ∷ ys in
    let i : ℕ = length xs in
    let within : i < length bs = omega (arith, length-append xs (c ∷ ys)) in
    let here : get_or bs i 0 ≡ c = get_or_at xs c ys 0 i refl in
    let front : take i bs ≡ xs = take_at xs (c ∷ ys) i refl in
    let long : length (xs ++ c ∷ []) ≡ i + 1 = length_push xs c in
    let parts : bs ≡ (xs ++ c ∷ []) ++ ys = sym (append_assoc xs (c ∷ []) ys) in
    let back : drop (i + 1) bs ≡ ys = ap (drop (i + 1)) parts ∙ drop_at (xs ++ c ∷ []) ys (i + 1) long in (
      subst IsUtf8 front (IsUtf8-take bs i u (IsCharBoundary-before_ascii bs i within (omega (arith, here)))),
      subst IsUtf8 back (IsUtf8-drop bs (i + 1) u (IsCharBoundary-after_ascii bs i u within (omega (arith, here)))),
    )

one_ascii : (c : ℕ) → c < 128 → (i : ℕ) → slice_index (c ∷ []) i < 128
one_ascii c low zero = low
one_ascii c low (suc i) = omega arith

ascii_first : (c : ℕ) (bs : List ℕ) → c < 128 → IsUtf8 bs → IsUtf8 (c ∷ bs)
ascii_first c bs low u = IsUtf8-append (c ∷ []) bs (IsUtf8-from_ascii (c ∷ []) (one_ascii c low)) u

all_joined : (ls : List (List ℕ)) → IsUtf8 (joined ls) → AllByRecursion IsUtf8 ls
all_joined [] u = tt
all_joined (x ∷ []) u = (u, tt)
all_joined (x ∷ y ∷ more) u = let s = cut_at_ascii x (joined (y ∷ more)) 10 (omega arith) u in (s.0, all_joined (y ∷ more) s.1)

joined_utf8 : (ls : List (List ℕ)) → AllByRecursion IsUtf8 ls → IsUtf8 (joined ls)
joined_utf8 [] h = IsUtf8-nil
joined_utf8 (x ∷ []) h = h.0
joined_utf8 (x ∷ y ∷ more) h = IsUtf8-append x (10 ∷ joined (y ∷ more)) h.0 (ascii_first 10 (joined (y ∷ more)) (omega arith) (joined_utf8 (y ∷ more) h.1))

pieces_utf8 : (bs : List ℕ) → IsUtf8 bs → AllByRecursion IsUtf8 (pieces bs)
pieces_utf8 bs u = all_joined (pieces bs) (rw joined-pieces u)

without_crs : (ls : List (List ℕ)) → AllByRecursion IsUtf8 ls → AllByRecursion IsUtf8 (map (drop_end is_cr) ls)
without_crs [] h = tt
without_crs (l ∷ ls) h = (end_utf8 is_cr cr_ascii l h.0, without_crs ls h.1)

clean_pieces_utf8 : (bs : List ℕ) → IsUtf8 bs → AllByRecursion IsUtf8 (clean_pieces bs)
clean_pieces_utf8 bs u = without_crs (pieces bs) (pieces_utf8 bs u)

pub clean_utf8 : (bs : List ℕ) → IsUtf8 bs → IsUtf8 (clean bs)
clean_utf8 bs u = joined_utf8 (clean_pieces bs) (clean_pieces_utf8 bs u)

-- ---- names

spaced_high : (b : ℕ) → 128 ≤ b → spaced b ≡ b
spaced_high b h = rw (fails_high is_lf lf_ascii b h, fails_high is_cr cr_ascii b h) refl

all_spaced_high : (bs : List ℕ) → AreHigh bs → map spaced bs ≡ bs
all_spaced_high [] h = refl
all_spaced_high (b ∷ bs) h = rw (spaced_high b h.0) (ap (λ w. b ∷ w) (all_spaced_high bs h.1))

spaced_low : (c : ℕ) (t : Bool) → c < 128 → cond t 32 c < 128
spaced_low c true h = omega arith
spaced_low c false h = h

spaced_step : (c : ℕ) (cs : List ℕ) (b : Bool) → nat_lt c 128 ≡ b → map spaced (encode_utf8_all cs) ≡ encode_utf8_all (map spaced cs) → map spaced (encode_utf8 c ++ encode_utf8_all cs) ≡ encode_utf8_all (map spaced (c ∷ cs))
spaced_step c cs true e h =
    ap (λ w. map spaced (w ++ encode_utf8_all cs)) (encode_ascii c (low_of c e))
    ∙ (ap (λ w. spaced c ∷ w) h ∙ sym (ap (λ w. w ++ encode_utf8_all (map spaced cs)) (encode_ascii (spaced c) (spaced_low c (is_lf c || is_cr c) (low_of c e)))))
spaced_step c cs false e h =
    map-append spaced (encode_utf8 c) (encode_utf8_all cs)
    ∙ (ap (λ w. w ++ map spaced (encode_utf8_all cs)) (all_spaced_high (encode_utf8 c) (some_high (encode_utf8 c) (high_bytes c (high_of c e))))
    ∙ (ap (λ w. encode_utf8 c ++ w) h
    ∙ ap (λ d. encode_utf8 d ++ encode_utf8_all (map spaced cs)) (sym (spaced_high c (high_of c e)))))

spaced_encoded : (cs : List ℕ) → map spaced (encode_utf8_all cs) ≡ encode_utf8_all (map spaced cs)
spaced_encoded [] = refl
spaced_encoded (c ∷ cs) = spaced_step c cs (nat_lt c 128) refl (spaced_encoded cs)

scalar_if : (c : ℕ) (t : Bool) → scalar c ≡ true → scalar (cond t 32 c) ≡ true
scalar_if c true h = refl
scalar_if c false h = h

scalars_spaced : (cs : List ℕ) → scalars cs ≡ true → scalars (map spaced cs) ≡ true
scalars_spaced [] h = refl
scalars_spaced (c ∷ cs) h = rw (scalar_if c (is_lf c || is_cr c) (and_first (scalar c) (scalars cs) h)) (scalars_spaced cs (and_second (scalar c) (scalars cs) h))

spaced_utf8 : (bs : List ℕ) → IsUtf8 bs → IsUtf8 (map spaced bs)
spaced_utf8 bs (cs, (s, e)) = (map spaced cs, (scalars_spaced cs s, sym (spaced_encoded cs) ∙ ap (map spaced) e))

pub name_utf8 : (bs : List ℕ) → IsUtf8 bs → IsUtf8 (tidy_name bs)
name_utf8 bs u = end_utf8 is_space space_ascii (drop_front is_space (map spaced (clean bs))) (front_utf8 is_space space_ascii (map spaced (clean bs)) (spaced_utf8 (clean bs) (clean_utf8 bs u)))

-- ---- Markdown text

marks_utf8 : (n b : ℕ) → b < 128 → IsUtf8 (replicate n b)
marks_utf8 zero b h = IsUtf8-nil
marks_utf8 (suc n) b h = ascii_first b (replicate n b) h (marks_utf8 n b h)

mark_ascii : (m : Mark) → byte_of m < 128
mark_ascii Backtick = omega arith
mark_ascii Tilde = omega arith

closing_utf8 : (o : Option Fence) → AllByRecursion IsUtf8 (closing_lines o)
closing_utf8 None = tt
closing_utf8 (Some fence) = (marks_utf8 fence.count (byte_of fence.mark) (mark_ascii fence.mark), tt)

pub markdown_utf8 : (bs : List ℕ) → IsUtf8 bs → IsUtf8 (tidy_markdown bs)
markdown_utf8 bs u =
    let ls : List (List ℕ) = unblanked (clean_pieces bs) in
    joined_utf8 (closed ls) (all_more IsUtf8 ls (closing_lines (open_behind None ls)) (all_end IsUtf8 is_blank (drop_front is_blank (clean_pieces bs)) (all_front IsUtf8 is_blank (clean_pieces bs) (clean_pieces_utf8 bs u))) (closing_utf8 (open_behind None ls)))
