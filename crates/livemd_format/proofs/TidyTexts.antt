-- What is tidied is tidy: names, kept lines, code, saved outputs and Markdown text.
use Rattle.std.proofs.Common.{◌≡◌, ℕ, ◌≤◌, suc, zero, Bool, true, false, ◌&&◌, ◌||◌, cond, List, [], ◌∷◌, ◌++◌, Option, Some, None, map, replicate, refl, sym, ap, ◌∙◌, arith, subst}
use Rattle.std.specs.Prelude.{◌==◌, nat_le, not, chars, encode_utf8_all}
use Rattle.std.specs.List.{AllByRecursion, list_all, list_any}
use Rattle.std.specs.Str.{IsUtf8}
use Rattle.std.proofs.lemmas.Bool.Decides.{nat_tests}
use Rattle.std.proofs.lemmas.List.{append-nil, length-replicate}
use Rattle.std.proofs.lemmas.Str.{chars-nil}
use Rattle.utf16_text.specs.Units.{AreScalars}
use Rattle.notebook.specs.declared.parts.Saved.{Saved}
use Rattle.livemd_lines.specs.declared.fences.Fence.{Fence}
use Rattle.livemd_lines.specs.declared.fences.Mark.{Mark}
use Rattle.livemd_lines.specs.declared.fences.Mark.TheVariants.{Backtick, Tilde}
use Rattle.blanks.specs.Blanks.{drop_end, drop_front, is_blank, is_cr, is_empty, is_space, is_space_or_tab}
use Rattle.livemd_lines.specs.Lines.{is_lf, joined, lines}
use Rattle.livemd_lines.specs.Kinds.{Inside, Closes, Heading1, Heading2, Plain, after_run, byte_of, is_byte, is_closing, kind_in, kind_of, open_after, opens_ticks, opens_tildes, opens_with, run, unfenced_kind}
use Rattle.livemd_lines.specs.declared.metadata.Metadata.{Metadata}
use Rattle.livemd_lines.specs.Meanings.{begins, metadata_of}
use Rattle.livemd_lines.specs.Written.{HasNoFeed, IsInfo, IsLine, open_behind}
use Rattle.livemd_lines.proofs.Stretches.{open_behind-append}
use Rattle.livemd_format.specs.RoundTrip.{AreKeptLines, AreOutputTexts, EndsWithoutStamp, HasPlainInfo, IsKeptLine, is_outer}
use Rattle.livemd_format.specs.Tidy.{changed, clean, clean_pieces, closed, closing_lines, pieces, spaced, tidy_before, tidy_lines, tidy_markdown, tidy_name, tidy_saved, unblanked}
use Rattle.livemd_format.proofs.Characters.{IsAsciiTest, changed_bytes, changed_text, clean_utf8, cr_ascii, end_encoded, feed_encoded, feed_of_none, front_encoded, markdown_utf8, name_utf8, none_encoded, same_text, space_or_tab_ascii, utf8_of}
use Rattle.livemd_format.proofs.Tidiness.{AreTidyKept, IsTidyFenced, IsTidyKept, IsTidyMarkdown, IsTidyName, IsTidySaved}
use Rattle.blanks.proofs.Trims.{drop_end-kept}
use Rattle.livemd_format.proofs.Trimming.{all_end, all_front, all_more, drop_end-twice, end_none, end_stricter, lines-joined, lines_of_clean, one_piece, pieces_of_clean}

-- ---- names

pub or_false : (a b : Bool) → (a || b) ≡ false → (a ≡ false) × (b ≡ false)
or_false true b h = absurd cc
or_false false b h = (refl, h)

none_end : (p q : ℕ → Bool) (l : List ℕ) → list_any p l ≡ false → list_any p (drop_end q l) ≡ false
none_end p q [] h = refl
none_end p q (c ∷ l) h =
    let s = or_false (p c) (list_any p l) h in
    let r = none_end p q l s.1 in
    elim (q c && is_empty (drop_end q l))
    as (λ b. list_any p (cond b [] (c ∷ drop_end q l)) ≡ false)
    [ true ↦ refl | false ↦ rw s.0 r ]

none_front : (p q : ℕ → Bool) (l : List ℕ) → list_any p l ≡ false → list_any p (drop_front q l) ≡ false
none_front p q [] h = refl
none_front p q (c ∷ l) h =
    elim (q c)
    as (λ b. list_any p (cond b (drop_front q l) (c ∷ l)) ≡ false)
    [ true ↦ none_front p q l (or_false (p c) (list_any p l) h).1 | false ↦ h ]

spaced_step : (c : ℕ) (a b : Bool) → (c == 10) ≡ a → (c == 13) ≡ b → (is_lf (cond (a || b) 32 c) ≡ false) × (is_cr (cond (a || b) 32 c) ≡ false)
spaced_step c true b e f = (refl, refl)
spaced_step c false true e f = (refl, refl)
spaced_step c false false e f = (e, f)

pub spaced_none : (l : List ℕ) → (list_any is_lf (map spaced l) ≡ false) × (list_any is_cr (map spaced l) ≡ false)
spaced_none [] = (refl, refl)
spaced_none (c ∷ l) =
    let s = spaced_step c (c == 10) (c == 13) refl refl in
    let r = spaced_none l in
    (rw s.0 r.0, rw s.1 r.1)

pub trimmed_front : (p : ℕ → Bool) (l : List ℕ) → drop_front p (drop_end p (drop_front p l)) ≡ drop_end p (drop_front p l)
trimmed_front p [] = refl
trimmed_front p (c ∷ l) =
    elim (p c)
    as (λ b. p c ≡ b → drop_front p (drop_end p (cond b (drop_front p l) (c ∷ l))) ≡ drop_end p (cond b (drop_front p l) (c ∷ l)))
    [ true ↦ λ e. trimmed_front p l | false ↦ λ e. rw (e, e) refl ]
    refl

pub name_none : (p : ℕ → Bool) (bs : List ℕ) → list_any p (map spaced (clean bs)) ≡ false → list_any p (tidy_name bs) ≡ false
name_none p bs h = none_end p is_space (drop_front is_space (map spaced (clean bs))) (none_front p is_space (map spaced (clean bs)) h)

pub name_tidy : (t : List ℕ) → AreScalars t → IsTidyName (changed tidy_name t)
name_tidy t h =
    let bs : List ℕ = encode_utf8_all t in
    let u : IsUtf8 (tidy_name bs) = name_utf8 bs (utf8_of t h) in
    let e = sym (changed_bytes tidy_name t u) in
    let s = spaced_none (clean bs) in
    record {
      text = changed_text tidy_name t u;
      line = subst IsLine e (feed_of_none (tidy_name bs) (name_none is_lf bs s.0), end_none is_cr (tidy_name bs) (name_none is_cr bs s.1));
      front = subst (λ w. drop_front is_space w ≡ w) e (trimmed_front is_space (map spaced (clean bs)));
      end = subst (λ w. drop_end is_space w ≡ w) e (drop_end-twice is_space (drop_front is_space (map spaced (clean bs))));
    }

-- ---- kept lines

space_or_tab_outer : (c : ℕ) → is_space_or_tab c ≡ true → is_outer c ≡ true
space_or_tab_outer c h = rw h refl

or_true : (a : Bool) → (a || true) ≡ true
or_true true = refl
or_true false = refl

cr_outer : (c : ℕ) → is_cr c ≡ true → is_outer c ≡ true
cr_outer c h = rw h (or_true (is_space_or_tab c))

-- one line without carriage returns at its end is clean
pub clean_line : (bs : List ℕ) → IsLine bs → clean bs ≡ bs
clean_line bs h = ap (λ ps. joined (map (drop_end is_cr) ps)) (one_piece bs h.0) ∙ h.1

bytes_line : (t : List ℕ) → HasNoFeed t → drop_end is_cr t ≡ t → IsLine (encode_utf8_all t)
bytes_line t f e = (feed_encoded t f, end_encoded is_cr cr_ascii t ∙ ap encode_utf8_all e)

same_line : (t : List ℕ) → AreScalars t → HasNoFeed t → drop_end is_cr t ≡ t → changed clean t ≡ t
same_line t h f e = ap chars (clean_line (encode_utf8_all t) (bytes_line t f e)) ∙ same_text t h

kept_tidy : (t : List ℕ) → AreScalars t → IsKeptLine t → IsTidyKept t
kept_tidy t h k = record {
  text = same_text t h;
  line = bytes_line t k.feed (end_stricter is_cr is_outer cr_outer t k.end);
  end = end_encoded is_space_or_tab space_or_tab_ascii t ∙ ap encode_utf8_all (end_stricter is_space_or_tab is_outer space_or_tab_outer t k.end);
  unknown = k.unknown;
}

kept_same : (ls : List (List ℕ)) → AllByRecursion AreScalars ls → AreKeptLines ls → tidy_before ls ≡ ls
kept_same [] h k = refl
kept_same (l ∷ ls) h k = ap (λ w. w ∷ tidy_before ls) (same_line l h.0 k.0.feed (end_stricter is_cr is_outer cr_outer l k.0.end)) ∙ ap (λ w. l ∷ w) (kept_same ls h.1 k.1)

kept_all : (ls : List (List ℕ)) → AllByRecursion AreScalars ls → AreKeptLines ls → AreTidyKept ls
kept_all [] h k = tt
kept_all (l ∷ ls) h k = (kept_tidy l h.0 k.0, kept_all ls h.1 k.1)

pub before_tidy : (ls : List (List ℕ)) → AllByRecursion AreScalars ls → AreKeptLines ls → AreTidyKept (tidy_before ls)
before_tidy ls h k = subst AreTidyKept (sym (kept_same ls h k)) (kept_all ls h k)

pub last_tidy : (ls : List (List ℕ)) → AllByRecursion AreScalars ls → AreKeptLines ls → EndsWithoutStamp ls → EndsWithoutStamp (tidy_before ls)
last_tidy ls h k s = subst EndsWithoutStamp (sym (kept_same ls h k)) s

-- ---- code and saved outputs

pub fenced_tidy : (t : List ℕ) → AreScalars t → IsTidyFenced (changed clean t)
fenced_tidy t h =
    let bs : List ℕ = encode_utf8_all t in
    let u : IsUtf8 (clean bs) = clean_utf8 bs (utf8_of t h) in
    record {
      text = changed_text clean t u;
      lines = subst (λ w. AllByRecursion IsLine (pieces w)) (sym (changed_bytes clean t u)) (subst (λ ps. AllByRecursion IsLine ps) (sym (pieces_of_clean bs)) (lines_of_clean bs));
    }

tick_ascii : IsAsciiTest (is_byte (byte_of Backtick))
tick_ascii b h = grind (arith, nat_tests)

info_bytes : (info : List ℕ) → IsInfo info → IsInfo (encode_utf8_all info)
info_bytes info i = record {
  none = none_encoded (is_byte (byte_of Backtick)) tick_ascii info i.none;
  trim = ap (drop_end is_space_or_tab) (front_encoded is_space_or_tab space_or_tab_ascii info) ∙ (end_encoded is_space_or_tab space_or_tab_ascii (drop_front is_space_or_tab info) ∙ ap encode_utf8_all i.trim);
}

pub saved_tidy : (o : Saved) → AreOutputTexts o → HasPlainInfo o → IsTidySaved (tidy_saved o)
saved_tidy o h k =
    let feed : HasNoFeed o.info = feed_of_none o.info k.feed in
    let end : drop_end is_cr o.info ≡ o.info = end_none is_cr o.info k.carriage in
    let same = sym (same_line o.info h.info feed end) in
    record {
      info_text = subst (λ w. chars (encode_utf8_all w) ≡ w) same (same_text o.info h.info);
      info = subst (λ w. IsInfo (encode_utf8_all w)) same (info_bytes o.info k.info);
      line = subst (λ w. IsLine (encode_utf8_all w)) same (bytes_line o.info feed end);
      text = fenced_tidy o.text h.text;
    }

-- ---- the fence that is open

-- three marks at least, as often as the line has them
abbrev IsLong : Option Fence → Type 0
IsLong None = Unit {0}
IsLong (Some fence) = 3 ≤ fence.count

le_of : (a b : ℕ) → nat_le a b ≡ true → a ≤ b
le_of a b h = grind (arith, nat_tests)

and_first : (a b : Bool) → (a && b) ≡ true → a ≡ true
and_first true b e = refl
and_first false b e = e

heading_opens : (a b : Bool) (x y : List ℕ) → open_after None (cond a (Heading1 x) (cond b (Heading2 y) Plain)) ≡ None
heading_opens true b x y = refl
heading_opens false true x y = refl
heading_opens false false x y = refl

unfenced_opens : (l : List ℕ) (o : Option Metadata) → metadata_of l ≡ o → open_after None (unfenced_kind l) ≡ None
unfenced_opens l None e = rw e (heading_opens (begins (35 ∷ 32 ∷ []) l) (begins (35 ∷ 35 ∷ 32 ∷ []) l) _ _)
unfenced_opens l (Some m) e = rw e refl

long_step : (l : List ℕ) (a b : Bool) → opens_ticks l ≡ a → opens_tildes l ≡ b → IsLong (open_after None (cond a (opens_with Backtick l) (cond b (opens_with Tilde l) (unfenced_kind l))))
long_step l true b e f = le_of 3 (run 96 l) (and_first (nat_le 3 (run 96 l)) (not (list_any (is_byte 96) (after_run 96 l))) e)
long_step l false true e f = le_of 3 (run 126 l) f
long_step l false false e f = rw (unfenced_opens l (metadata_of l) refl) tt

opens_long : (l : List ℕ) → IsLong (open_after None (kind_of l))
opens_long l = long_step l (opens_ticks l) (opens_tildes l) refl refl

inside_long : (f : Fence) (b : Bool) → 3 ≤ f.count → IsLong (open_after (Some f) (cond b Closes Inside))
inside_long f true h = tt
inside_long f false h = h

long_behind : (around : Option Fence) (ls : List (List ℕ)) → IsLong around → IsLong (open_behind around ls)
long_behind around [] h = h
long_behind None (l ∷ ls) h = long_behind (open_after None (kind_of l)) ls (opens_long l)
long_behind (Some f) (l ∷ ls) h = long_behind (open_after (Some f) (kind_in (Some f) l)) ls (inside_long f (is_closing f l) h)

-- ---- the line that closes it

marks_kept : (p : ℕ → Bool) (n b : ℕ) → p b ≡ false → drop_end p (replicate n b) ≡ replicate n b
marks_kept p zero b h = refl
marks_kept p (suc n) b h = rw (h, marks_kept p n b h) refl

same_byte : (b : ℕ) → (b == b) ≡ true
same_byte b = grind (arith, nat_tests)

only_marks : (n b : ℕ) → list_all (is_byte b) (replicate n b) ≡ true
only_marks zero b = refl
only_marks (suc n) b = rw (same_byte b) (only_marks n b)

le_self : (n : ℕ) → nat_le n n ≡ true
le_self n = grind (arith, nat_tests)

mark_text : (m : Mark) → is_space_or_tab (byte_of m) ≡ false
mark_text Backtick = refl
mark_text Tilde = refl

mark_feed : (m : Mark) → is_lf (byte_of m) ≡ false
mark_feed Backtick = refl
mark_feed Tilde = refl

mark_carriage : (m : Mark) → is_cr (byte_of m) ≡ false
mark_carriage Backtick = refl
mark_carriage Tilde = refl

marks_close : (f : Fence) → is_closing f (replicate f.count (byte_of f.mark)) ≡ true
marks_close f = rw (marks_kept is_space_or_tab f.count (byte_of f.mark) (mark_text f.mark), only_marks f.count (byte_of f.mark), length-replicate f.count (byte_of f.mark)) (le_self f.count)

closes : (o : Option Fence) → open_behind o (closing_lines o) ≡ None
closes None = refl
closes (Some f) = rw (marks_close f) refl

closed_closed : (ls : List (List ℕ)) → open_behind None (closed ls) ≡ None
closed_closed ls = open_behind-append None ls (closing_lines (open_behind None ls)) ∙ closes (open_behind None ls)

marks_no_feed : (n b : ℕ) → is_lf b ≡ false → HasNoFeed (replicate n b)
marks_no_feed zero b h = tt
marks_no_feed (suc n) b h = (h, marks_no_feed n b h)

closing_all : (o : Option Fence) → AllByRecursion IsLine (closing_lines o)
closing_all None = tt
closing_all (Some f) = ((marks_no_feed f.count (byte_of f.mark) (mark_feed f.mark), marks_kept is_cr f.count (byte_of f.mark) (mark_carriage f.mark)), tt)

marks_not_blank : (n b : ℕ) → 3 ≤ n → is_space_or_tab b ≡ false → is_blank (replicate n b) ≡ false
marks_not_blank zero b le h = absurd (omega arith)
marks_not_blank (suc n) b le h = rw h refl

closed_end : (o : Option Fence) (ls : List (List ℕ)) → IsLong o → drop_end is_blank ls ≡ ls → drop_end is_blank (ls ++ closing_lines o) ≡ ls ++ closing_lines o
closed_end None ls h e = rw append-nil e
closed_end (Some f) ls h e = drop_end-kept is_blank ls (replicate f.count (byte_of f.mark)) (marks_not_blank f.count (byte_of f.mark) h (mark_text f.mark))

-- ---- Markdown text

-- the first line isn't blank, if there is one
abbrev pub BeginsWell : List (List ℕ) → Type 0
BeginsWell [] = Unit {0}
BeginsWell (l ∷ ls) = is_blank l ≡ false

front_begins : (ls : List (List ℕ)) → BeginsWell (drop_front is_blank ls)
front_begins [] = tt
front_begins (l ∷ ls) =
    elim (is_blank l)
    as (λ b. is_blank l ≡ b → BeginsWell (cond b (drop_front is_blank ls) (l ∷ ls)))
    [ true ↦ λ e. front_begins ls | false ↦ λ e. e ]
    refl

end_begins : (ls : List (List ℕ)) → BeginsWell ls → BeginsWell (drop_end is_blank ls)
end_begins [] h = tt
end_begins (l ∷ ls) h =
    elim (is_blank l && is_empty (drop_end is_blank ls))
    as (λ b. BeginsWell (cond b [] (l ∷ drop_end is_blank ls)))
    [ true ↦ tt | false ↦ h ]

more_begins : (ls more : List (List ℕ)) → (ls ≡ [] → BeginsWell more) → BeginsWell ls → BeginsWell (ls ++ more)
more_begins [] more g h = g refl
more_begins (l ∷ ls) more g h = h

closed_begins : (ls : List (List ℕ)) → BeginsWell ls → BeginsWell (closed ls)
closed_begins ls h = more_begins ls (closing_lines (open_behind None ls)) (λ e. subst (λ ms. BeginsWell (closing_lines (open_behind None ms))) (sym e) tt) h

pub record AreTidyLines (ls : List (List ℕ)) : Type 0 where
  pub all : AllByRecursion IsLine ls
  pub begin : BeginsWell ls
  pub end : drop_end is_blank ls ≡ ls
  pub closed : open_behind None ls ≡ None

pub lines_tidy : (bs : List ℕ) → AreTidyLines (tidy_lines bs)
lines_tidy bs =
    let front : List (List ℕ) = drop_front is_blank (clean_pieces bs) in
    let inner : List (List ℕ) = unblanked (clean_pieces bs) in
    record {
      all = all_more IsLine inner (closing_lines (open_behind None inner)) (all_end IsLine is_blank front (all_front IsLine is_blank (clean_pieces bs) (lines_of_clean bs))) (closing_all (open_behind None inner));
      begin = closed_begins inner (end_begins front (front_begins (clean_pieces bs)));
      end = closed_end (open_behind None inner) inner (long_behind None inner tt) (drop_end-twice is_blank front);
      closed = closed_closed inner;
    }

text_of_lines_tidy : (t : List ℕ) (ls : List (List ℕ)) → chars (encode_utf8_all t) ≡ t → encode_utf8_all t ≡ joined ls → is_empty t ≡ false → AreTidyLines ls → IsTidyMarkdown t
text_of_lines_tidy t [] e b some h =
    let none : [] ≡ t = sym chars-nil ∙ (ap chars (sym b) ∙ e) in
    let both : true ≡ false = ap is_empty none ∙ some in
    absurd cc
text_of_lines_tidy t (l ∷ ls) e b some h = record {
  text = e;
  first = l;
  more = ls;
  cut = ap lines b ∙ lines-joined l ls h.all h.end;
  whole = sym b;
  all = h.all;
  begin = h.begin;
  end = h.end;
  closed = h.closed;
}

pub markdown_tidy : (t : List ℕ) → AreScalars t → is_empty (changed tidy_markdown t) ≡ false → IsTidyMarkdown (changed tidy_markdown t)
markdown_tidy t h some =
    let bs : List ℕ = encode_utf8_all t in
    let u : IsUtf8 (tidy_markdown bs) = markdown_utf8 bs (utf8_of t h) in
    text_of_lines_tidy (changed tidy_markdown t) (tidy_lines bs) (changed_text tidy_markdown t u) (changed_bytes tidy_markdown t u) some (lines_tidy bs)
