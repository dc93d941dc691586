-- What the machine gives is what the source has.
use Rattle.std.proofs.Common.{◌≡◌, ◌⊎◌, inl, inr, ℕ, zero, suc, ◌+◌, ◌<◌, ◌==◌, ◌&&◌, ◌||◌, not, Bool, true, false, List, [], ◌∷◌, ◌++◌, length, drop, Option, Some, None, refl, sym, ap, ◌∙◌, arith, subst, append_assoc, lit<}
use Rattle.std.proofs.lemmas.Str.{IsUtf8-drop}
use Rattle.std.specs.Str.{IsUtf8}
use Rattle.ex_grammar.specs.declared.token.Sign.TheVariants.{OpenBrace, CloseBrace}
use Rattle.ex_grammar.specs.declared.token.LexErrorKind.{LexErrorKind}
use Rattle.ex_grammar.specs.declared.token.LexErrorKind.TheVariants.{BadEscape, OpenText}
use Rattle.ex_grammar.specs.Tokens.{Token, Mark, TextBegins, HoleBegins, HoleEnds, TextEnds}
use Rattle.std.specs.List.{list_all}
use Rattle.ex_grammar.specs.declared.token.Sign.{Sign}
use Rattle.ex_grammar.specs.Tokens.{signs}
use Rattle.ex_grammar.specs.Texts.{Says, first_is}
use Rattle.ex_grammar.specs.Lexing as L
use Rattle.ex_grammar.specs.Lexing.{Piece, begins_with, sign_in, Whole, Part, part, braces_by, braces, Stands, Cut, TextGoes}
use Rattle.ex_grammar.specs.Refusals as R
use Rattle.ex_grammar.specs.Refusals.{BreaksOff, Refused, TextRefused}
use Rattle.ex_lexer.specs.declared.texts.Stop.{Stop}
use Rattle.ex_lexer.specs.declared.texts.Stop.TheVariants.{Quote, Hole, End, Escape}
use Rattle.ex_lexer.specs.Runs.{run}
use Rattle.ex_lexer.specs.Front.{Front, Takes, Fails, front}
use Rattle.ex_lexer.specs.Machine.{Holes, Step, Goes, Refuses, stop_by, text_step, braced, holes_after, piece_step, ends_hole, outer, opening_of, step, Answer, Cuts, Fault, before, at_end, Gives, over, refused, onward}
use Rattle.ex_lexer.proofs.Bools.{and_left, and_right, not_both, same, chosen, if_true, if_false}
use Rattle.ex_lexer.proofs.Bytes.{drop_front}
use Rattle.ex_lexer.proofs.Sounds.{row_or, Stood, Answers, front_found, run_found, StopsAt, utf8_after}
use Rattle.ex_lexer.proofs.Cuts.{Shifts, braces_append, text_braces, after_quote, after_hole}
use Rattle.ex_lexer.proofs.Refusing.{after_ascii, utf8_inside}

-- a `#{` of a text that began at a place is left, with so many braces open in it: parts up to its `}`, and the text's rest
pub record HoleLeft (n at : ℕ) (s : List ℕ) : Type 0 where
  pub inner : List Part
  pub mid : ℕ
  pub text : List ℕ
  pub after : List ℕ
  pub bytes : List ℕ
  pub cut : Cut at s inner mid (125 ∷ (text ++ after))
  pub closed : braces (Some n) inner ≡ Some 0
  pub says : Says text after bytes

abbrev pub text_place : {n at : ℕ} {s : List ℕ} → HoleLeft n at s → ℕ
text_place h = h.mid + (1 + length h.text)

abbrev pub left_parts : {n at : ℕ} {s : List ℕ} → HoleLeft n at s → List Part
left_parts h = h.inner ++ part (Whole (HoleEnds h.bytes)) h.mid (h.mid + (1 + length h.text)) ∷ []

-- and the text ends there
pub record TextLeft (n at : ℕ) (s : List ℕ) : Type 0 where
  pub hole : HoleLeft n at s
  pub more : List Part
  pub end : ℕ
  pub rest : List ℕ
  pub goes : TextGoes (hole.mid + (1 + length hole.text)) hole.after more end rest

abbrev pub all_left : {n at : ℕ} {s : List ℕ} → TextLeft n at s → List Part
all_left t = left_parts t.hole ++ t.more

-- what an answer says of a source, where these texts are open
abbrev pub CutsTo : Holes → ℕ → List ℕ → List Part → Type 0
CutsTo [] at s ps = (end : ℕ) × Cut at s ps end []
CutsTo (h ∷ hs) at s ps = (t : TextLeft h.1 at s) × (qs : List Part) × CutsTo hs t.end t.rest qs × (ps ≡ all_left t ++ qs)

-- refused before the innermost `#{` ends, or in its text after it
pub data RefusedIn (o n at : ℕ) (s : List ℕ) (at' : ℕ) (k : LexErrorKind) : Type 0 where
  inside : {ps : List Part} {mid m : ℕ} {rest : List ℕ} → Cut at s ps mid rest → braces (Some n) ps ≡ Some m → Refused mid rest at' k → RefusedIn o n at s at' k
  unended : {ps : List Part} {mid m : ℕ} → Cut at s ps mid [] → braces (Some n) ps ≡ Some m → at' ≡ o → k ≡ OpenText → RefusedIn o n at s at' k
  later : (h : HoleLeft n at s) → TextRefused o (h.mid + (1 + length h.text)) h.after at' k → RefusedIn o n at s at' k

abbrev pub RefusedAt : Holes → ℕ → List ℕ → ℕ → LexErrorKind → Type 0
RefusedAt [] at s at' k = (ps : List Part) × (mid : ℕ) × (rest : List ℕ) × Cut at s ps mid rest × Refused mid rest at' k
RefusedAt (h ∷ hs) at s at' k = RefusedIn h.0 h.1 at s at' k ⊎ ((t : TextLeft h.1 at s) × RefusedAt hs t.end t.rest at' k)

abbrev pub Means : Holes → ℕ → List ℕ → Answer → Type 0
Means hs at s (Cuts ps) = CutsTo hs at s ps
Means hs at s (Fault at' k) = RefusedAt hs at s at' k

-- parts before
abbrev hole_before : {n m at at2 : ℕ} {s s2 : List ℕ} (front : List Part) → braces (Some n) front ≡ Some m → ((ps : List Part) (e : ℕ) (r : List ℕ) → Cut at2 s2 ps e r → Cut at s (front ++ ps) e r) → HoleLeft m at2 s2 → HoleLeft n at s
hole_before front b f h = record {
  inner = front ++ h.inner;
  mid = h.mid;
  text = h.text;
  after = h.after;
  bytes = h.bytes;
  cut = f h.inner h.mid (125 ∷ (h.text ++ h.after)) h.cut;
  closed = braces_append _ front h.inner ∙ (ap (λ q. braces q h.inner) b ∙ h.closed);
  says = h.says;
}

abbrev text_before : {n m at at2 : ℕ} {s s2 : List ℕ} (front : List Part) → braces (Some n) front ≡ Some m → ((ps : List Part) (e : ℕ) (r : List ℕ) → Cut at2 s2 ps e r → Cut at s (front ++ ps) e r) → TextLeft m at2 s2 → TextLeft n at s
text_before front b f t = record { hole = hole_before front b f t.hole; more = t.more; end = t.end; rest = t.rest; goes = t.goes }

pub prefixed : (hs hs' : Holes) (front : List Part) (at at2 : ℕ) (s s2 : List ℕ) (a : Answer) → Shifts hs front hs' → ((ps : List Part) (e : ℕ) (r : List ℕ) → Cut at2 s2 ps e r → Cut at s (front ++ ps) e r) → Means hs' at2 s2 a → Means hs at s (before front a)
prefixed [] hs' front at at2 s s2 (Cuts ps) k f m = let v = subst (λ h. CutsTo h at2 s2 ps) k m in (v.0, f ps v.0 [] v.1)
prefixed [] hs' front at at2 s s2 (Fault at' x) k f m = let v = subst (λ h. RefusedAt h at2 s2 at' x) k m in (front ++ v.0, v.1, v.2, f v.0 v.1 v.2 v.3, v.4)
prefixed (h ∷ hs) hs' front at at2 s s2 (Cuts ps) k f m =
    let v = subst (λ w. CutsTo w at2 s2 ps) k.2 m in
    let t = text_before front k.1 f v.0 in
    let e : front ++ (all_left v.0 ++ v.1) ≡ all_left t ++ v.1 = sym (append_assoc front (all_left v.0) v.1) ∙ ap (λ w. w ++ v.1) (sym (append_assoc front (left_parts v.0.hole) v.0.more) ∙ ap (λ w. w ++ v.0.more) (sym (append_assoc front v.0.hole.inner _))) in
    (t, v.1, v.2, ap (λ w. front ++ w) v.3 ∙ e)
prefixed (h ∷ hs) hs' front at at2 s s2 (Fault at' x) k f m = of (subst (λ w. RefusedAt w at2 s2 at' x) k.2 m)
  where
    of : RefusedIn h.0 k.0 at2 s2 at' x ⊎ ((t : TextLeft k.0 at2 s2) × RefusedAt hs t.end t.rest at' x) → RefusedIn h.0 h.1 at s at' x ⊎ ((t : TextLeft h.1 at s) × RefusedAt hs t.end t.rest at' x)
    of (inl (inside {ps} {mid} {m} {rest} c b r)) = inl (inside (f ps mid rest c) (braces_append _ front ps ∙ (ap (λ q. braces q ps) k.1 ∙ b)) r)
    of (inl (unended {ps} {mid} {m} c b e g)) = inl (unended (f ps mid [] c) (braces_append _ front ps ∙ (ap (λ q. braces q ps) k.1 ∙ b)) e g)
    of (inl (later w r)) = inl (later (hole_before front k.1 f w) r)
    of (inr t) = inr (text_before front k.1 f t.0, t.1)

-- refused here
pub refused_here : (hs : Holes) {at at' : ℕ} {s : List ℕ} {k : LexErrorKind} → Refused at s at' k → RefusedAt hs at s at' k
refused_here [] r = ([], _, _, L.nothing, r)
refused_here (h ∷ hs) r = inl (inside L.nothing refl r)

-- a `}` that ends the innermost `#{` here
abbrev hole_here : (at : ℕ) (text after bytes : List ℕ) → Says text after bytes → HoleLeft 0 at (125 ∷ (text ++ after))
hole_here at text after bytes w = record { inner = []; mid = at; text = text; after = after; bytes = bytes; cut = L.nothing; closed = refl; says = w }

-- what a `#{` and the text's rest after its `}` make of the text
text_goes_on : {pos : ℕ} {inner : List ℕ} (h : HoleLeft 0 (pos + 2) inner) (qs : List Part) (end : ℕ) (rest : List ℕ) → TextGoes (h.mid + (1 + length h.text)) h.after qs end rest
    → TextGoes pos (35 ∷ 123 ∷ inner) (part (Whole HoleBegins) pos (pos + 2) ∷ (h.inner ++ part (Whole (HoleEnds h.bytes)) h.mid (h.mid + (1 + length h.text)) ∷ qs)) end rest
text_goes_on h qs end rest t = L.hole h.cut h.closed h.says t

hole_refused : {o pos at' : ℕ} {inner : List ℕ} {k : LexErrorKind} → RefusedIn o 0 (pos + 2) inner at' k → TextRefused o pos (35 ∷ 123 ∷ inner) at' k
hole_refused (inside c b r) = R.in_hole c b r
hole_refused {o} {pos} {at'} {inner} {k} (unended c b e f) = subst (λ v. TextRefused o pos (35 ∷ 123 ∷ inner) v k) (sym e) (subst (λ v. TextRefused o pos (35 ∷ 123 ∷ inner) o v) (sym f) (R.open_hole c b))
hole_refused (later h r) = R.after_hole h.cut h.closed h.says r

-- a text that begins here and ends
pub begins_ends : (hs : Holes) (at : ℕ) (text rest bytes : List ℕ) (a : Answer) → Says text (34 ∷ rest) bytes → Means hs ((at + (1 + length text)) + 1) rest a
    → Means hs at (34 ∷ (text ++ 34 ∷ rest)) (before (part (Whole (TextBegins bytes)) at (at + (1 + length text)) ∷ part (Whole TextEnds) (at + (1 + length text)) ((at + (1 + length text)) + 1) ∷ []) a)
begins_ends hs at text rest bytes a w m = prefixed hs hs _ at _ _ rest a (stays hs) (λ ps e r c. L.text w L.ends c) m
  where
    stays : (hs : Holes) → Shifts hs (part (Whole (TextBegins bytes)) at (at + (1 + length text)) ∷ part (Whole TextEnds) (at + (1 + length text)) ((at + (1 + length text)) + 1) ∷ []) hs
    stays [] = refl
    stays (h ∷ hs) = (h.1, refl, refl)

-- a text that begins here and comes to a `#{`
pub begins_hole : (hs : Holes) (at : ℕ) (text inner bytes : List ℕ) (a : Answer) → Says text (35 ∷ 123 ∷ inner) bytes → Means ((at, 0) ∷ hs) ((at + (1 + length text)) + 2) inner a
    → Means hs at (34 ∷ (text ++ 35 ∷ 123 ∷ inner)) (before (part (Whole (TextBegins bytes)) at (at + (1 + length text)) ∷ part (Whole HoleBegins) (at + (1 + length text)) ((at + (1 + length text)) + 2) ∷ []) a)
begins_hole hs at text inner bytes a w m = of a m
  where
    pos : ℕ
    pos = at + (1 + length text)

    all : TextLeft 0 ((at + (1 + length text)) + 2) inner → List Part
    all t = part (Whole (TextBegins bytes)) at (at + (1 + length text)) ∷ (part (Whole HoleBegins) (at + (1 + length text)) ((at + (1 + length text)) + 2) ∷ (t.hole.inner ++ part (Whole (HoleEnds t.hole.bytes)) t.hole.mid (t.hole.mid + (1 + length t.hole.text)) ∷ t.more))

    goes : (t : TextLeft 0 ((at + (1 + length text)) + 2) inner) → TextGoes (at + (1 + length text)) (35 ∷ 123 ∷ inner) (part (Whole HoleBegins) (at + (1 + length text)) ((at + (1 + length text)) + 2) ∷ (t.hole.inner ++ part (Whole (HoleEnds t.hole.bytes)) t.hole.mid (t.hole.mid + (1 + length t.hole.text)) ∷ t.more)) t.end t.rest
    goes t = text_goes_on t.hole t.more t.end t.rest t.goes

    stays : (hs : Holes) (t : TextLeft 0 ((at + (1 + length text)) + 2) inner) → Shifts hs (part (Whole (TextBegins bytes)) at (at + (1 + length text)) ∷ (part (Whole HoleBegins) (at + (1 + length text)) ((at + (1 + length text)) + 2) ∷ (t.hole.inner ++ part (Whole (HoleEnds t.hole.bytes)) t.hole.mid (t.hole.mid + (1 + length t.hole.text)) ∷ t.more))) hs
    stays [] t = refl
    stays (h ∷ hs) t = (h.1, text_braces (text_goes_on t.hole t.more t.end t.rest t.goes) h.1, refl)

    after : (t : TextLeft 0 ((at + (1 + length text)) + 2) inner) (b : Answer) → Means hs t.end t.rest b
        → Means hs at (34 ∷ (text ++ 35 ∷ 123 ∷ inner)) (before (part (Whole (TextBegins bytes)) at (at + (1 + length text)) ∷ (part (Whole HoleBegins) (at + (1 + length text)) ((at + (1 + length text)) + 2) ∷ (t.hole.inner ++ part (Whole (HoleEnds t.hole.bytes)) t.hole.mid (t.hole.mid + (1 + length t.hole.text)) ∷ t.more))) b)
    after t b k = prefixed hs hs _ at t.end _ t.rest b (stays hs t) (λ ps e r c. L.text w (text_goes_on t.hole t.more t.end t.rest t.goes) c) k

    of : (a : Answer) → Means ((at, 0) ∷ hs) ((at + (1 + length text)) + 2) inner a → Means hs at (34 ∷ (text ++ 35 ∷ 123 ∷ inner)) (before (part (Whole (TextBegins bytes)) at (at + (1 + length text)) ∷ part (Whole HoleBegins) (at + (1 + length text)) ((at + (1 + length text)) + 2) ∷ []) a)
    of (Cuts ps) v =
        let t = v.0 in
        let x = part (Whole (HoleEnds t.hole.bytes)) t.hole.mid (t.hole.mid + (1 + length t.hole.text)) in
        let e : (t.hole.inner ++ x ∷ t.more) ++ v.1 ≡ ps = ap (λ l. l ++ v.1) (sym (append_assoc t.hole.inner (x ∷ []) t.more)) ∙ sym v.3 in
        subst (λ l. CutsTo hs at (34 ∷ (text ++ 35 ∷ 123 ∷ inner)) (part (Whole (TextBegins bytes)) at (at + (1 + length text)) ∷ part (Whole HoleBegins) (at + (1 + length text)) ((at + (1 + length text)) + 2) ∷ l)) e (after t (Cuts v.1) v.2)
    of (Fault at' k) (inl r) = refused_here hs (R.in_text w (hole_refused r))
    of (Fault at' k) (inr v) = after v.0 (Fault at' k) v.1

-- what is left at a `}` that ends a `#{`: the text ends, or comes to another
abbrev quote_left : (at : ℕ) (text rest bytes : List ℕ) → Says text (34 ∷ rest) bytes → TextLeft 0 at (125 ∷ (text ++ 34 ∷ rest))
quote_left at text rest bytes w = record {
  hole = record { inner = []; mid = at; text = text; after = 34 ∷ rest; bytes = bytes; cut = L.nothing; closed = refl; says = w };
  more = part (Whole TextEnds) (at + (1 + length text)) ((at + (1 + length text)) + 1) ∷ [];
  end = (at + (1 + length text)) + 1;
  rest = rest;
  goes = L.ends;
}

abbrev hole_left : (at : ℕ) (text inner bytes : List ℕ) → Says text (35 ∷ 123 ∷ inner) bytes → TextLeft 0 ((at + (1 + length text)) + 2) inner → TextLeft 0 at (125 ∷ (text ++ 35 ∷ 123 ∷ inner))
hole_left at text inner bytes w t = record {
  hole = record { inner = []; mid = at; text = text; after = 35 ∷ 123 ∷ inner; bytes = bytes; cut = L.nothing; closed = refl; says = w };
  more = part (Whole HoleBegins) (at + (1 + length text)) ((at + (1 + length text)) + 2) ∷ (t.hole.inner ++ part (Whole (HoleEnds t.hole.bytes)) t.hole.mid (t.hole.mid + (1 + length t.hole.text)) ∷ t.more);
  end = t.end;
  rest = t.rest;
  goes = text_goes_on t.hole t.more t.end t.rest t.goes;
}

-- a `}` that ends a `#{`, and the text ends
pub ends_ends : (o : ℕ) (hs : Holes) (at : ℕ) (text rest bytes : List ℕ) (a : Answer) → Says text (34 ∷ rest) bytes → Means hs ((at + (1 + length text)) + 1) rest a
    → Means ((o, 0) ∷ hs) at (125 ∷ (text ++ 34 ∷ rest)) (before (part (Whole (HoleEnds bytes)) at (at + (1 + length text)) ∷ part (Whole TextEnds) (at + (1 + length text)) ((at + (1 + length text)) + 1) ∷ []) a)
ends_ends o hs at text rest bytes (Cuts qs) w m = (quote_left at text rest bytes w, qs, m, refl)
ends_ends o hs at text rest bytes (Fault at' k) w m = inr (quote_left at text rest bytes w, m)

-- a `}` that ends a `#{`, and the text comes to another
again_fault : (o : ℕ) (hs : Holes) (at : ℕ) (text inner bytes : List ℕ) (at' : ℕ) (k : LexErrorKind) → Says text (35 ∷ 123 ∷ inner) bytes → RefusedAt ((o, 0) ∷ hs) ((at + (1 + length text)) + 2) inner at' k
    → RefusedAt ((o, 0) ∷ hs) at (125 ∷ (text ++ 35 ∷ 123 ∷ inner)) at' k
again_fault o hs at text inner bytes at' k w (inl r) = inl (later (hole_here at text (35 ∷ 123 ∷ inner) bytes w) (hole_refused r))
again_fault o hs at text inner bytes at' k w (inr v) = inr (hole_left at text inner bytes w v.0, v.1)

pub ends_hole_again : (o : ℕ) (hs : Holes) (at : ℕ) (text inner bytes : List ℕ) (a : Answer) → Says text (35 ∷ 123 ∷ inner) bytes → Means ((o, 0) ∷ hs) ((at + (1 + length text)) + 2) inner a
    → Means ((o, 0) ∷ hs) at (125 ∷ (text ++ 35 ∷ 123 ∷ inner)) (before (part (Whole (HoleEnds bytes)) at (at + (1 + length text)) ∷ part (Whole HoleBegins) (at + (1 + length text)) ((at + (1 + length text)) + 2) ∷ []) a)
ends_hole_again o hs at text inner bytes (Cuts ps) w v =
    let t = v.0 in
    let x = part (Whole (HoleEnds t.hole.bytes)) t.hole.mid (t.hole.mid + (1 + length t.hole.text)) in
    let e : ps ≡ (t.hole.inner ++ x ∷ t.more) ++ v.1 = v.3 ∙ ap (λ l. l ++ v.1) (append_assoc t.hole.inner (x ∷ []) t.more) in
    (hole_left at text inner bytes w t, v.1, v.2, ap (λ l. part (Whole (HoleEnds bytes)) at (at + (1 + length text)) ∷ part (Whole HoleBegins) (at + (1 + length text)) ((at + (1 + length text)) + 2) ∷ l) e)
ends_hole_again o hs at text inner bytes (Fault at' k) w m = again_fault o hs at text inner bytes at' k w m

-- what a step says
abbrev pub StepMeans : Holes → ℕ → List ℕ → Step → Type 0
StepMeans hs at s (Goes ps hs' n) = (rest : List ℕ) × (at' : ℕ) × (drop n s ≡ rest) × (at + n ≡ at') × IsUtf8 rest × ((a : Answer) → Means hs' at' rest a → Means hs at s (before ps a))
StepMeans hs at s (Refuses at' k) = RefusedAt hs at s at' k

breaks_by : (rest : List ℕ) → (more : List ℕ) × (rest ≡ 92 ∷ more) × R.NoEscape more → BreaksOff rest BadEscape
breaks_by rest k = subst (λ v. BreaksOff v BadEscape) (sym k.1) (R.bad_escape k.2)

quote_place : (at n : ℕ) → at + (n + 1) ≡ (at + n) + 1
quote_place at n = omega arith

hole_place : (at n : ℕ) → at + (n + 2) ≡ (at + n) + 2
hole_place at n = omega arith

-- the step at a `"`
begin_means : (hs : Holes) (at : ℕ) (text rest bytes : List ℕ) (s : Stop) → Says text rest bytes → StopsAt s rest → IsUtf8 (34 ∷ (text ++ rest))
    → StepMeans hs at (34 ∷ (text ++ rest)) (stop_by s hs at (at + (1 + length text)) (1 + length text) (part (Whole (TextBegins bytes)) at (at + (1 + length text)) ∷ []))
begin_means hs at text rest bytes Quote w k u = quote rest k.0 k.1 w u
  where
    quote : (rest more : List ℕ) → rest ≡ 34 ∷ more → Says text rest bytes → IsUtf8 (34 ∷ (text ++ rest)) → StepMeans hs at (34 ∷ (text ++ rest)) (stop_by Quote hs at (at + (1 + length text)) (1 + length text) (part (Whole (TextBegins bytes)) at (at + (1 + length text)) ∷ []))
    quote rest more e w u = subst (λ v. Says text v bytes → IsUtf8 (34 ∷ (text ++ v)) → StepMeans hs at (34 ∷ (text ++ v)) (stop_by Quote hs at (at + (1 + length text)) (1 + length text) (part (Whole (TextBegins bytes)) at (at + (1 + length text)) ∷ []))) (sym e)
        (λ w u. (more, (at + (1 + length text)) + 1, sym (after_quote 34 text more), quote_place at (1 + length text), utf8_after 34 more (lit< tt) (after_ascii (34 ∷ text) more 34 (lit< tt) u), λ a m. begins_ends hs at text more bytes a w m)) w u
begin_means hs at text rest bytes Hole w k u = hole rest k.0 k.1 w u
  where
    hole : (rest more : List ℕ) → rest ≡ 35 ∷ 123 ∷ more → Says text rest bytes → IsUtf8 (34 ∷ (text ++ rest)) → StepMeans hs at (34 ∷ (text ++ rest)) (stop_by Hole hs at (at + (1 + length text)) (1 + length text) (part (Whole (TextBegins bytes)) at (at + (1 + length text)) ∷ []))
    hole rest more e w u = subst (λ v. Says text v bytes → IsUtf8 (34 ∷ (text ++ v)) → StepMeans hs at (34 ∷ (text ++ v)) (stop_by Hole hs at (at + (1 + length text)) (1 + length text) (part (Whole (TextBegins bytes)) at (at + (1 + length text)) ∷ []))) (sym e)
        (λ w u. (more, (at + (1 + length text)) + 2, sym (after_hole 34 text more), hole_place at (1 + length text), utf8_inside 34 text more (lit< tt) u, λ a m. begins_hole hs at text more bytes a w m)) w u
begin_means hs at text rest bytes End w k u = refused_here hs (R.in_text w (R.breaks (subst (λ v. BreaksOff v OpenText) (sym k) R.open_text)))
begin_means hs at text rest bytes Escape w k u = refused_here hs (R.in_text w (R.breaks (breaks_by rest k)))

-- the step at the `}` of a `#{`
end_means : (o : ℕ) (hs : Holes) (at : ℕ) (text rest bytes : List ℕ) (s : Stop) → Says text rest bytes → StopsAt s rest → IsUtf8 (125 ∷ (text ++ rest))
    → StepMeans ((o, 0) ∷ hs) at (125 ∷ (text ++ rest)) (stop_by s hs o (at + (1 + length text)) (1 + length text) (part (Whole (HoleEnds bytes)) at (at + (1 + length text)) ∷ []))
end_means o hs at text rest bytes Quote w k u = quote rest k.0 k.1 w u
  where
    quote : (rest more : List ℕ) → rest ≡ 34 ∷ more → Says text rest bytes → IsUtf8 (125 ∷ (text ++ rest)) → StepMeans ((o, 0) ∷ hs) at (125 ∷ (text ++ rest)) (stop_by Quote hs o (at + (1 + length text)) (1 + length text) (part (Whole (HoleEnds bytes)) at (at + (1 + length text)) ∷ []))
    quote rest more e w u = subst (λ v. Says text v bytes → IsUtf8 (125 ∷ (text ++ v)) → StepMeans ((o, 0) ∷ hs) at (125 ∷ (text ++ v)) (stop_by Quote hs o (at + (1 + length text)) (1 + length text) (part (Whole (HoleEnds bytes)) at (at + (1 + length text)) ∷ []))) (sym e)
        (λ w u. (more, (at + (1 + length text)) + 1, sym (after_quote 125 text more), quote_place at (1 + length text), utf8_after 34 more (lit< tt) (after_ascii (125 ∷ text) more 34 (lit< tt) u), λ a m. ends_ends o hs at text more bytes a w m)) w u
end_means o hs at text rest bytes Hole w k u = hole rest k.0 k.1 w u
  where
    hole : (rest more : List ℕ) → rest ≡ 35 ∷ 123 ∷ more → Says text rest bytes → IsUtf8 (125 ∷ (text ++ rest)) → StepMeans ((o, 0) ∷ hs) at (125 ∷ (text ++ rest)) (stop_by Hole hs o (at + (1 + length text)) (1 + length text) (part (Whole (HoleEnds bytes)) at (at + (1 + length text)) ∷ []))
    hole rest more e w u = subst (λ v. Says text v bytes → IsUtf8 (125 ∷ (text ++ v)) → StepMeans ((o, 0) ∷ hs) at (125 ∷ (text ++ v)) (stop_by Hole hs o (at + (1 + length text)) (1 + length text) (part (Whole (HoleEnds bytes)) at (at + (1 + length text)) ∷ []))) (sym e)
        (λ w u. (more, (at + (1 + length text)) + 2, sym (after_hole 125 text more), hole_place at (1 + length text), utf8_inside 125 text more (lit< tt) u, λ a m. ends_hole_again o hs at text more bytes a w m)) w u
end_means o hs at text rest bytes End w k u = inl (later (hole_here at text rest bytes w) (R.breaks (subst (λ v. BreaksOff v OpenText) (sym k) R.open_text)))
end_means o hs at text rest bytes Escape w k u = inl (later (hole_here at text rest bytes w) (R.breaks (breaks_by rest k)))

-- the characters that were read, put in
abbrev text_by : (List ℕ → Token) → Holes → ℕ → ℕ → ℕ → List ℕ → Stop → Step
text_by token hs o at n bytes s = stop_by s hs o (at + (1 + n)) (1 + n) (part (Whole (token bytes)) at (at + (1 + n)) ∷ [])

begin_found : (hs : Holes) (at : ℕ) (xs : List ℕ) → IsUtf8 (34 ∷ xs) → StepMeans hs at (34 ∷ xs) (text_step TextBegins hs at at (run 0 xs))
begin_found hs at xs u =
    let r = run_found xs in
    subst (λ n. StepMeans hs at (34 ∷ xs) (text_by TextBegins hs at at n (run 0 xs).bytes (run 0 xs).stop)) (sym r.len)
    (subst (λ v. StepMeans hs at (34 ∷ v) (text_by TextBegins hs at at (length r.text) (run 0 xs).bytes (run 0 xs).stop)) (sym r.parts)
    (begin_means hs at r.text r.rest (run 0 xs).bytes (run 0 xs).stop r.says r.stops (subst (λ v. IsUtf8 (34 ∷ v)) r.parts u)))

end_found : (o : ℕ) (hs : Holes) (at : ℕ) (xs : List ℕ) → IsUtf8 (125 ∷ xs) → StepMeans ((o, 0) ∷ hs) at (125 ∷ xs) (text_step HoleEnds hs o at (run 0 xs))
end_found o hs at xs u =
    let r = run_found xs in
    subst (λ n. StepMeans ((o, 0) ∷ hs) at (125 ∷ xs) (text_by HoleEnds hs o at n (run 0 xs).bytes (run 0 xs).stop)) (sym r.len)
    (subst (λ v. StepMeans ((o, 0) ∷ hs) at (125 ∷ v) (text_by HoleEnds hs o at (length r.text) (run 0 xs).bytes (run 0 xs).stop)) (sym r.parts)
    (end_means o hs at r.text r.rest (run 0 xs).bytes (run 0 xs).stop r.says r.stops (subst (λ v. IsUtf8 (125 ∷ v)) r.parts u)))

-- `}` is the piece that may close what isn't open
closes_only : (p : Piece) (n : ℕ) → braces_by p (Some n) ≡ None → (p ≡ Whole (Mark CloseBrace)) × (n ≡ 0)
closes_only (Whole (Mark CloseBrace)) zero h = (refl, refl)
closes_only (Whole (Mark CloseBrace)) (suc n) h = absurd (cc)
closes_only (Whole (Mark OpenBrace)) n h = absurd (cc)
closes_only p n h = absurd (cc)

abbrev is_close : Sign → Bool
is_close CloseBrace = true
is_close s = false

abbrev close_row : List ℕ × Sign → Bool
close_row row = not (is_close row.1) || first_is (λ b. b == 125) row.0

close_found : (rows : List (List ℕ × Sign)) (bytes : List ℕ) (r : List ℕ × Sign) → list_all close_row rows ≡ true → sign_in rows bytes ≡ Some r → close_row r ≡ true
close_found [] bytes r g h = cc
close_found (row ∷ rows) bytes r g h = chosen (begins_with row.0 bytes)
    (λ e. subst (λ v. close_row v ≡ true) (ap (row_or row) (sym (if_true _ _ _ e) ∙ h)) (and_left (close_row row) _ g))
    (λ e. close_found rows bytes r (and_right (close_row row) _ g) (sym (if_false _ _ _ e) ∙ h))

mark_found : {text rest : List ℕ} {p : Piece} → Stands text p rest → (s : Sign) → p ≡ Whole (Mark s) → sign_in signs (text ++ rest) ≡ Some (text, s)
mark_found L.space s e = absurd (cc)
mark_found L.tab s e = absurd (cc)
mark_found (L.comment h n) s e = absurd (cc)
mark_found (L.newline h) s e = absurd (cc)
mark_found L.semicolon s e = absurd (cc)
mark_found (L.integer d n lt) s e = absurd (cc)
mark_found (L.key h b) s e = absurd (cc)
mark_found (L.word h f g) s e = absurd (cc)
mark_found (L.called h g) s e = absurd (cc)
mark_found (L.name h f g n) s e = absurd (cc)
mark_found (L.alias h) s e = absurd (cc)
mark_found (L.atom_name h) s e = absurd (cc)
mark_found (L.atom_alias h) s e = absurd (cc)
mark_found (L.atom_text h) s e = absurd (cc)
mark_found (L.sign {text} {rest} {s = t} h) s e = let i : t ≡ s = cc in h ∙ ap (λ v. Some (text, v)) i

brace_byte : (b : ℕ) (bytes : List ℕ) (p : Piece) (n : ℕ) → Stood (b ∷ bytes) p n → p ≡ Whole (Mark CloseBrace) → (b == 125) ≡ true
brace_byte b bytes p n s e = of s.text s.parts s.some (close_found signs (s.text ++ s.rest) (s.text, CloseBrace) refl (mark_found s.stands CloseBrace e))
  where
    of : (text : List ℕ) → b ∷ bytes ≡ text ++ s.rest → 0 < length text → close_row (text, CloseBrace) ≡ true → (b == 125) ≡ true
    of [] f l h = absurd (omega arith)
    of (c ∷ text) f l h = let i : b ≡ c = cc in ap (λ v. v == 125) i ∙ h

-- the step at a piece
piece_found : (hs : Holes) (at b : ℕ) (bytes : List ℕ) → IsUtf8 (b ∷ bytes) → (b == 34) ≡ false → ends_hole b hs ≡ false → (f : Front) → front (b ∷ bytes) ≡ f → Answers (b ∷ bytes) f → StepMeans hs at (b ∷ bytes) (piece_step f hs at)
piece_found hs at b bytes u q e (Fails n k) h a = refused_here hs (a at)
piece_found hs at b bytes u q e (Takes p n) h s =
    let d : drop n (b ∷ bytes) ≡ s.rest = ap (λ m. drop m (b ∷ bytes)) s.len ∙ (ap (drop (length s.text)) s.parts ∙ drop_front s.text s.rest) in
    (s.rest, at + n, d, refl, subst IsUtf8 d (IsUtf8-drop (b ∷ bytes) n u (s.boundary u)), λ a m. prefixed hs (holes_after p hs) (part p at (at + n) ∷ []) at (at + n) (b ∷ bytes) s.rest a (shifts hs e) (λ ps f r c. cut ps f r c) m)
  where
    cut : (ps : List Part) (f : ℕ) (r : List ℕ) → Cut (at + n) s.rest ps f r → Cut at (b ∷ bytes) (part p at (at + n) ∷ ps) f r
    cut ps f r c =
        subst (λ v. Cut at v (part p at (at + n) ∷ ps) f r) (sym s.parts)
        (subst (λ m. Cut at (s.text ++ s.rest) (part p at (at + m) ∷ ps) f r) (sym s.len) (L.piece s.stands (subst (λ m. Cut (at + m) s.rest ps f r) s.len c)))

    shifts : (hs : Holes) → ends_hole b hs ≡ false → Shifts hs (part p at (at + n) ∷ []) (holes_after p hs)
    shifts [] e = refl
    shifts (k ∷ hs) e = of (braces_by p (Some k.1)) refl
      where
        of : (o : Option ℕ) → braces_by p (Some k.1) ≡ o → (m : ℕ) × (braces_by p (Some k.1) ≡ Some m) × ((k.0, braced k.1 (braces_by p (Some k.1))) ∷ hs ≡ (k.0, m) ∷ hs)
        of (Some m) f = (m, f, ap (λ v. (k.0, braced k.1 v) ∷ hs) f)
        of None f =
            let q = closes_only p k.1 f in
            absurd (not_both (b == 125 && k.1 == 0) (rw (brace_byte b bytes p n s q.0, ap (λ v. v == 0) q.1) refl) e)

-- every step
step_means : (hs : Holes) (at b : ℕ) (bytes : List ℕ) → IsUtf8 (b ∷ bytes) → StepMeans hs at (b ∷ bytes) (step hs at b bytes)
step_means hs at b bytes u = chosen (b == 34)
    (λ e. subst (StepMeans hs at (b ∷ bytes)) (sym (if_true _ _ _ e)) (subst (λ v. StepMeans hs at (v ∷ bytes) (text_step TextBegins hs at at (run 0 bytes))) (sym (same b 34 e)) (begin_found hs at bytes (subst (λ v. IsUtf8 (v ∷ bytes)) (same b 34 e) u))))
    (λ e. subst (StepMeans hs at (b ∷ bytes)) (sym (if_false _ _ _ e)) (chosen (ends_hole b hs) (λ f. subst (StepMeans hs at (b ∷ bytes)) (sym (if_true _ _ _ f)) (ended hs f)) (λ f. subst (StepMeans hs at (b ∷ bytes)) (sym (if_false _ _ _ f)) (piece_found hs at b bytes u e f (front (b ∷ bytes)) refl (front_found b bytes u e)))))
  where
    ended : (hs : Holes) → ends_hole b hs ≡ true → StepMeans hs at (b ∷ bytes) (text_step HoleEnds (outer hs) (opening_of hs) at (run 0 bytes))
    ended [] f = cc
    ended (h ∷ hs) f =
        let i = same b 125 (and_left (b == 125) _ f) in
        let z = same h.1 0 (and_right (b == 125) _ f) in
        subst (λ v. StepMeans (h ∷ hs) at (v ∷ bytes) (text_step HoleEnds hs h.0 at (run 0 bytes))) (sym i)
        (subst (λ v. StepMeans ((h.0, v) ∷ hs) at (125 ∷ bytes) (text_step HoleEnds hs h.0 at (run 0 bytes))) (sym z) (end_found h.0 hs at bytes (subst (λ v. IsUtf8 (v ∷ bytes)) i u)))

-- what the machine gives is what the source has
pub gives_means : {hs : Holes} {at : ℕ} {s : List ℕ} {a : Answer} → Gives hs at s a → IsUtf8 s → Means hs at s a
gives_means {hs} {at} over u = of hs
  where
    of : (hs : Holes) → Means hs at [] (at_end hs)
    of [] = (at, L.nothing)
    of (h ∷ hs) = inl (unended L.nothing refl refl refl)
gives_means {hs} {at} (refused {b} {bytes} e) u = subst (StepMeans hs at (b ∷ bytes)) e (step_means hs at b bytes u)
gives_means {hs} {at} (onward {holes'} {b} {n} {bytes} {ps} {a} e g) u =
    let k : StepMeans hs at (b ∷ bytes) (Goes ps holes' n) = subst (StepMeans hs at (b ∷ bytes)) e (step_means hs at b bytes u) in
    let m = gives_means g (subst IsUtf8 (sym k.2) k.4) in
    k.5 a (subst (λ v. Means holes' k.1 v a) k.2 (subst (λ v. Means holes' v (drop n (b ∷ bytes)) a) k.3 m))
