-- A source that is cut into parts, and the machine.
use Rattle.std.proofs.Common.{◌≡◌, ℕ, zero, suc, ◌+◌, ◌==◌, Bool, true, false, List, [], ◌∷◌, ◌++◌, length, drop, Option, Some, None, refl, sym, ap, ◌∙◌, arith, subst, append_assoc, length-append}
use Rattle.std.proofs.lemmas.List.{append-nil}
use Rattle.ex_grammar.specs.declared.token.Sign.TheVariants.{OpenBrace, CloseBrace}
use Rattle.ex_grammar.specs.declared.token.LexErrorKind.TheVariants.{BadChar}
use Rattle.ex_grammar.specs.Tokens.{Token, Mark, TextBegins, HoleBegins, HoleEnds, TextEnds}
use Rattle.ex_grammar.specs.Texts.{Says}
use Rattle.ex_grammar.specs.Lexing as L
use Rattle.ex_grammar.specs.Lexing.{Piece, Whole, Part, part, braces_by, braces, Stands, Cut, TextGoes}
use Rattle.ex_lexer.specs.declared.texts.Stop.{Stop}
use Rattle.ex_lexer.specs.declared.texts.Stop.TheVariants.{Quote, Hole}
use Rattle.ex_lexer.specs.Runs.{run, stopped, longer}
use Rattle.ex_lexer.specs.Front.{Front, Takes, Fails, front}
use Rattle.ex_lexer.specs.Machine.{Holes, Goes, stop_by, text_step, braced, holes_after, piece_step, ends_hole, step, Answer, Cuts, Fault, before, Gives, onward}
use Rattle.ex_lexer.proofs.Bools.{and_left, and_right, not_both, not_true, same, if_false}
use Rattle.ex_lexer.proofs.Bytes.{drop_front}
use Rattle.std.specs.Str.{chars}
use Rattle.ex_grammar.specs.Tokens.{signs}
use Rattle.ex_grammar.specs.Names as N
use Rattle.ex_grammar.specs.Names.{begins_name}
use Rattle.ex_grammar.specs.Texts.{first_is}
use Rattle.ex_grammar.specs.Lexing.{sign_in}
use Rattle.ex_lexer.specs.Front.{class_of, front_by}
use Rattle.ex_lexer.proofs.Fronts.{front_complete, says_run, quote_stops, hole_stops, is_word, name_word, first_digit, found_name}
use Rattle.ex_lexer.proofs.Sounds.{sign_stood}

-- parts before parts
pub before_twice : (ps qs : List Part) (a : Answer) → before (ps ++ qs) a ≡ before ps (before qs a)
before_twice ps qs (Cuts rs) = ap Cuts (append_assoc ps qs rs)
before_twice ps qs (Fault at k) = refl

-- a step that goes on, with what it takes
pub go : {holes holes' : Holes} {at n : ℕ} {b : ℕ} {bytes rest : List ℕ} {ps : List Part} {a : Answer} → step holes at b bytes ≡ Goes ps holes' n → rest ≡ drop n (b ∷ bytes) → Gives holes' (at + n) rest a → Gives holes at (b ∷ bytes) (before ps a)
go {holes'} {at} {n} {a} e f g = onward e (subst (λ v. Gives holes' (at + n) v a) f g)

-- the texts that are open after parts, where these were open before
abbrev pub Shifts : Holes → List Part → Holes → Type 0
Shifts [] ps hs' = hs' ≡ []
Shifts (h ∷ hs) ps hs' = (n : ℕ) × (braces (Some h.1) ps ≡ Some n) × (hs' ≡ (h.0, n) ∷ hs)

braces_none : (ps : List Part) → braces None ps ≡ None
braces_none [] = refl
braces_none (p ∷ ps) = braces_none ps

some_is : {n m : ℕ} → Some n ≡ Some m → n ≡ m
some_is {n} e = ap (of n) e
  where
    of : ℕ → Option ℕ → ℕ
    of k None = k
    of k (Some v) = v

no_some : {n : ℕ} → None ≡ Some n → ⊥
no_some e = cc

pub before_nothing : (a : Answer) → before [] a ≡ a
before_nothing (Cuts ps) = refl
before_nothing (Fault at k) = refl

-- `"` begins no piece, and `}` is a sign
no_name : (b : ℕ) (bytes : List ℕ) → is_word b ≡ false → first_is begins_name (chars (b ∷ bytes)) ≡ false
no_name b bytes h = not_true _ (λ e. not_both (is_word b) (name_word b bytes e) h)

pub quote_front : (bytes : List ℕ) → front (34 ∷ bytes) ≡ Fails 0 BadChar
quote_front bytes = ap (λ t. front_by (class_of 34 t) (34 ∷ bytes) bytes) (no_name 34 bytes refl)

pub brace_front : (bytes : List ℕ) → front (125 ∷ bytes) ≡ Takes (Whole (Mark CloseBrace)) 1
brace_front bytes = ap (λ t. front_by (class_of 125 t) (125 ∷ bytes) bytes) (no_name 125 bytes refl)

pub not_quote : (b : ℕ) (bytes : List ℕ) (p : Piece) (n : ℕ) → front (b ∷ bytes) ≡ Takes p n → (b == 34) ≡ false
not_quote b bytes p n h = not_true _ (λ e. clash (sym (quote_front bytes) ∙ (ap (λ v. front (v ∷ bytes)) (sym (same b 34 e)) ∙ h)))
  where
    takes_is : Front → Bool
    takes_is (Takes q m) = true
    takes_is (Fails m k) = false

    clash : Fails 0 BadChar ≡ Takes p n → ⊥
    clash e = not_both true refl (sym (ap takes_is e))

piece_or : Piece → Front → Piece
piece_or p (Takes q n) = q
piece_or p (Fails n k) = p

pub is_brace : (b : ℕ) (bytes : List ℕ) (p : Piece) (n : ℕ) → front (b ∷ bytes) ≡ Takes p n → (b == 125) ≡ true → Whole (Mark CloseBrace) ≡ p
unfolding piece_or
is_brace b bytes p n h e = ap (piece_or p) (sym (brace_front bytes) ∙ (ap (λ v. front (v ∷ bytes)) (sym (same b 125 e)) ∙ h))

-- the step at a piece
piece_at : (hs : Holes) (at b : ℕ) (bytes : List ℕ) (p : Piece) (n : ℕ) → front (b ∷ bytes) ≡ Takes p n → ends_hole b hs ≡ false → step hs at b bytes ≡ Goes (part p at (at + n) ∷ []) (holes_after p hs) n
piece_at hs at b bytes p n h e = if_false _ _ _ (not_quote b bytes p n h) ∙ (if_false _ _ _ e ∙ ap (λ f. piece_step f hs at) h)

-- what a piece leaves open, and that it ends no `#{` of the parts
record PieceShift (hs : Holes) (p : Piece) (ps : List Part) (hs' : Holes) (b : ℕ) : Type 0 where
  pub stays : ends_hole b hs ≡ false
  pub shifts : Shifts (holes_after p hs) ps hs'

piece_shift : (hs hs' : Holes) (at b : ℕ) (bytes : List ℕ) (p : Piece) (n from to : ℕ) (ps : List Part) → front (b ∷ bytes) ≡ Takes p n → Shifts hs (part p from to ∷ ps) hs' → PieceShift hs p ps hs' b
piece_shift [] hs' at b bytes p n from to ps h s = record { stays = refl; shifts = s }
piece_shift (k ∷ hs) hs' at b bytes p n from to ps h s = record {
  stays = not_true _ (λ e. closes (is_brace b bytes p n h (and_left (b == 125) _ e)) (same k.1 0 (and_right (b == 125) _ e)));
  shifts = rest (braces_by p (Some k.1)) refl;
}
  where
    closes : Whole (Mark CloseBrace) ≡ p → k.1 ≡ 0 → ⊥
    closes e z = no_some (sym (braces_none ps) ∙ (ap (λ q. braces (braces_by (Whole (Mark CloseBrace)) (Some q)) ps) (sym z) ∙ (ap (λ q. braces (braces_by q (Some k.1)) ps) e ∙ s.1)))

    rest : (o : Option ℕ) → braces_by p (Some k.1) ≡ o → Shifts ((k.0, braced k.1 (braces_by p (Some k.1))) ∷ hs) ps hs'
    rest None e = absurd (no_some (sym (braces_none ps) ∙ (ap (λ q. braces q ps) (sym e) ∙ s.1)))
    rest (Some m) e = (s.0, ap (λ q. braces (Some q) ps) (ap (braced k.1) e) ∙ (ap (λ q. braces q ps) (sym e) ∙ s.1), s.2)

-- a piece has bytes
pub stands_some : {text rest : List ℕ} {p : Piece} → Stands text p rest → (b : ℕ) × (t : List ℕ) × (text ≡ b ∷ t)
stands_some L.space = (32, [], refl)
stands_some L.tab = (9, [], refl)
stands_some (L.comment {text} h n) = (35, text, refl)
stands_some (L.newline L.feed) = (10, [], refl)
stands_some (L.newline L.return_feed) = (13, 10 ∷ [], refl)
stands_some L.semicolon = (59, [], refl)
stands_some (L.integer d n lt) = let f = first_digit d in (f.0, f.1, f.2)
stands_some (L.key {blank} h b) = let f = found_name h in (f.byte, f.bytes ++ 58 ∷ blank, ap (λ v. v ++ 58 ∷ blank) f.is)
stands_some (L.word h f e) = let g = found_name h in (g.byte, g.bytes, g.is)
stands_some (L.called h e) = let g = found_name h in (g.byte, g.bytes, g.is)
stands_some (L.name h f e n) = let g = found_name h in (g.byte, g.bytes, g.is)
stands_some (L.alias (N.alias {b} {bytes} h k n)) = (b, bytes, refl)
stands_some (L.atom_name {x} h) = (58, x, refl)
stands_some (L.atom_alias {x} h) = (58, x, refl)
stands_some (L.atom_text {text} s) = (58, 34 ∷ (text ++ 34 ∷ []), refl)
stands_some (L.sign {text} {rest} {s} h) = of text h
  where
    of : (text : List ℕ) → sign_in signs (text ++ rest) ≡ Some (text, s) → (b : ℕ) × (t : List ℕ) × (text ≡ b ∷ t)
    of [] h = let f = sign_stood rest [] s h in absurd (let k = f.some in let l = f.len in omega arith)
    of (b ∷ t) h = (b, t, refl)

-- the step at the characters of a text
pub text_at : (hs hs0 : Holes) (opening at0 b : ℕ) (text rest bytes : List ℕ) (token : List ℕ → Token) (s : Stop) → Says text rest bytes → run 0 rest ≡ stopped s → step hs0 at0 b (text ++ rest) ≡ text_step token hs opening at0 (run 0 (text ++ rest))
    → step hs0 at0 b (text ++ rest) ≡ stop_by s hs opening (at0 + (1 + length text)) (1 + length text) (part (Whole (token bytes)) at0 (at0 + (1 + length text)) ∷ [])
text_at hs hs0 opening at0 b text rest bytes token s w h e =
    let k : run 0 (text ++ rest) ≡ record { len = length text + 0; bytes = bytes ++ []; stop = s } = says_run w ∙ ap (longer (length text) bytes) h in
    let z : length text + 0 ≡ length text = omega arith in
    e ∙ (ap (text_step token hs opening at0) k ∙ (ap (λ n. text_step token hs opening at0 (record { len = n; bytes = bytes ++ []; stop = s })) z ∙ ap (λ v. text_step token hs opening at0 (record { len = length text; bytes = v; stop = s })) (append-nil bytes)))

pub after_quote : (b : ℕ) (text rest : List ℕ) → rest ≡ drop ((1 + length text) + 1) (b ∷ (text ++ 34 ∷ rest))
after_quote b text rest =
    let a : text ++ 34 ∷ rest ≡ (text ++ 34 ∷ []) ++ rest = sym (append_assoc text (34 ∷ []) rest) in
    let k : (1 + length text) + 1 ≡ length (b ∷ (text ++ 34 ∷ [])) = omega (arith, length-append text (34 ∷ [])) in
    sym (ap (λ m. drop m (b ∷ (text ++ 34 ∷ rest))) k ∙ (ap (λ v. drop (length (b ∷ (text ++ 34 ∷ []))) (b ∷ v)) a ∙ drop_front (b ∷ (text ++ 34 ∷ [])) rest))

pub after_hole : (b : ℕ) (text rest : List ℕ) → rest ≡ drop ((1 + length text) + 2) (b ∷ (text ++ 35 ∷ 123 ∷ rest))
after_hole b text rest =
    let a : text ++ 35 ∷ 123 ∷ rest ≡ (text ++ 35 ∷ 123 ∷ []) ++ rest = sym (append_assoc text (35 ∷ 123 ∷ []) rest) in
    let k : (1 + length text) + 2 ≡ length (b ∷ (text ++ 35 ∷ 123 ∷ [])) = omega (arith, length-append text (35 ∷ 123 ∷ [])) in
    sym (ap (λ m. drop m (b ∷ (text ++ 35 ∷ 123 ∷ rest))) k ∙ (ap (λ v. drop (length (b ∷ (text ++ 35 ∷ 123 ∷ []))) (b ∷ v)) a ∙ drop_front (b ∷ (text ++ 35 ∷ 123 ∷ [])) rest))

pub moved : {hs : Holes} {at : ℕ} {s : List ℕ} {a : Answer} (at' : ℕ) → at ≡ at' → Gives hs at s a → Gives hs at' s a
moved {hs} {s} {a} at' e g = subst (λ m. Gives hs m s a) e g

-- a text that ends, and one that comes to a `#{`
pub ends_text : (hs hs0 : Holes) (opening at0 b : ℕ) (text rest bytes : List ℕ) (token : List ℕ → Token) (a : Answer) → Says text (34 ∷ rest) bytes → step hs0 at0 b (text ++ 34 ∷ rest) ≡ text_step token hs opening at0 (run 0 (text ++ 34 ∷ rest))
    → Gives hs ((at0 + (1 + length text)) + 1) rest a → Gives hs0 at0 (b ∷ (text ++ 34 ∷ rest)) (before (part (Whole (token bytes)) at0 (at0 + (1 + length text)) ∷ part (Whole TextEnds) (at0 + (1 + length text)) ((at0 + (1 + length text)) + 1) ∷ []) a)
ends_text hs hs0 opening at0 b text rest bytes token a w e g =
    let n = 1 + length text in
    let k : (at0 + n) + 1 ≡ at0 + (n + 1) = omega arith in
    go (text_at hs hs0 opening at0 b text (34 ∷ rest) bytes token Quote w (quote_stops rest) e) (after_quote b text rest) (moved (at0 + (n + 1)) k g)

pub comes_to_hole : (hs hs0 : Holes) (opening at0 b : ℕ) (text inner bytes : List ℕ) (token : List ℕ → Token) (a : Answer) → Says text (35 ∷ 123 ∷ inner) bytes → step hs0 at0 b (text ++ 35 ∷ 123 ∷ inner) ≡ text_step token hs opening at0 (run 0 (text ++ 35 ∷ 123 ∷ inner))
    → Gives ((opening, 0) ∷ hs) ((at0 + (1 + length text)) + 2) inner a → Gives hs0 at0 (b ∷ (text ++ 35 ∷ 123 ∷ inner)) (before (part (Whole (token bytes)) at0 (at0 + (1 + length text)) ∷ part (Whole HoleBegins) (at0 + (1 + length text)) ((at0 + (1 + length text)) + 2) ∷ []) a)
comes_to_hole hs hs0 opening at0 b text inner bytes token a w e g =
    let n = 1 + length text in
    let k : (at0 + n) + 2 ≡ at0 + (n + 2) = omega arith in
    go (text_at hs hs0 opening at0 b text (35 ∷ 123 ∷ inner) bytes token Hole w (hole_stops inner) e) (after_hole b text inner) (moved (at0 + (n + 2)) k g)

-- the parts of a text leave the braces as they are
pub braces_append : (n : Option ℕ) (ps qs : List Part) → braces n (ps ++ qs) ≡ braces (braces n ps) qs
braces_append n [] qs = refl
braces_append n (p ∷ ps) qs = braces_append (braces_by p.piece n) ps qs

-- k braces more around
raised : (k : ℕ) (p : Piece) (n m : ℕ) → braces_by p (Some n) ≡ Some m → braces_by p (Some (n + k)) ≡ Some (m + k)
raised k (Whole (Mark OpenBrace)) n m h = let e : suc (n + k) ≡ suc n + k = omega arith in ap Some e ∙ ap (λ v. Some (v + k)) (some_is h)
raised k (Whole (Mark CloseBrace)) zero m h = absurd (no_some h)
raised k (Whole (Mark CloseBrace)) (suc n) m h =
    let e : suc n + k ≡ suc (n + k) = omega arith in
    ap (λ v. braces_by (Whole (Mark CloseBrace)) (Some v)) e ∙ ap (λ v. Some (v + k)) (some_is h)
raised k p n m h = ap (λ v. Some (v + k)) (some_is h)

raised_all : (k n m : ℕ) (ps : List Part) → braces (Some n) ps ≡ Some m → braces (Some (n + k)) ps ≡ Some (m + k)
raised_all k n m [] h = ap (λ v. Some (v + k)) (some_is h)
raised_all k n m (p ∷ ps) h = of (braces_by p.piece (Some n)) refl (λ j g. raised_all k j m ps g)
  where
    of : (o : Option ℕ) → braces_by p.piece (Some n) ≡ o → ((j : ℕ) → braces (Some j) ps ≡ Some m → braces (Some (j + k)) ps ≡ Some (m + k)) → braces (braces_by p.piece (Some (n + k))) ps ≡ Some (m + k)
    of None e f = absurd (no_some (sym (braces_none ps) ∙ (ap (λ q. braces q ps) (sym e) ∙ h)))
    of (Some j) e f = ap (λ q. braces q ps) (raised k p.piece n j e) ∙ f j (ap (λ q. braces q ps) (sym e) ∙ h)

closed_at : (n : ℕ) (ps : List Part) → braces (Some 0) ps ≡ Some 0 → braces (Some n) ps ≡ Some n
closed_at n ps h = let e : 0 + n ≡ n = omega arith in ap (λ v. braces (Some v) ps) (sym e) ∙ (raised_all n 0 0 ps h ∙ ap Some e)

pub text_braces : {pos end : ℕ} {s r : List ℕ} {ps : List Part} → TextGoes pos s ps end r → (n : ℕ) → braces (Some n) ps ≡ Some n
text_braces L.ends n = refl
text_braces (L.hole {at' = mid} {text} {bytes} {ps} {qs} c h w g) n =
    let more = part (Whole (HoleEnds bytes)) mid (mid + (1 + length text)) ∷ qs in
    braces_append (Some n) ps more ∙ (ap (λ q. braces q more) (closed_at n ps h) ∙ text_braces g n)

shift_text : (hs hs' : Holes) (p : Part) (ps qs : List Part) → ((n : ℕ) → braces_by p.piece (Some n) ≡ Some n) → ((n : ℕ) → braces (Some n) ps ≡ Some n) → Shifts hs (p ∷ (ps ++ qs)) hs' → Shifts hs qs hs'
shift_text [] hs' p ps qs f g s = s
shift_text (h ∷ hs) hs' p ps qs f g s = (s.0, sym (ap (λ q. braces q (ps ++ qs)) (f h.1) ∙ (braces_append (Some h.1) ps qs ∙ ap (λ q. braces q qs) (g h.1))) ∙ s.1, s.2)

shift_none : (hs hs' : Holes) → Shifts hs [] hs' → hs' ≡ hs
shift_none [] hs' s = s
shift_none (h ∷ hs) hs' s = s.2 ∙ ap (λ n. (h.0, n) ∷ hs) (sym (some_is s.1))

piece_gives : (hs hs' : Holes) (at : ℕ) (text after : List ℕ) (p : Piece) (ps : List Part) (b : ℕ) (t : List ℕ) → text ≡ b ∷ t → Stands text p after → Shifts hs (part p at (at + length text) ∷ ps) hs' → (a : Answer)
    → (Shifts (holes_after p hs) ps hs' → Gives (holes_after p hs) (at + length text) after (before ps a)) → Gives hs at (text ++ after) (before (part p at (at + length text) ∷ ps) a)
piece_gives hs hs' at text after p ps b t e w k a f =
    let h : front ((b ∷ t) ++ after) ≡ Takes p (length text) = ap (λ v. front (v ++ after)) (sym e) ∙ front_complete w in
    let s = piece_shift hs hs' at b (t ++ after) p (length text) at (at + length text) ps h k in
    let d : after ≡ drop (length text) ((b ∷ t) ++ after) = sym (ap (λ v. drop (length text) (v ++ after)) (sym e) ∙ drop_front text after) in
    subst (λ v. Gives hs at (v ++ after) (before (part p at (at + length text) ∷ ps) a)) (sym e)
    (subst (Gives hs at ((b ∷ t) ++ after)) (sym (before_twice (part p at (at + length text) ∷ []) ps a)) (go (piece_at hs at b (t ++ after) p (length text) h s.stays) d (f s.shifts)))

-- what is cut is what the machine takes
mutual
  pub cut_gives : {at end : ℕ} {s r : List ℕ} {ps : List Part} → Cut at s ps end r → (hs hs' : Holes) → Shifts hs ps hs' → (a : Answer) → Gives hs' end r a → Gives hs at s (before ps a)
  cut_gives {at} {s} L.nothing hs hs' k a g = subst (λ h. Gives h at s (before [] a)) (shift_none hs hs' k) (subst (Gives hs' at s) (sym (before_nothing a)) g)
  cut_gives {at} {end} {r} (L.piece {text} {after} {p} {ps} w c) hs hs' k a g =
      let t = stands_some w in
      piece_gives hs hs' at text after p ps t.0 t.1 t.2 w k a (λ n. cut_gives c (holes_after p hs) hs' n a g)
  cut_gives {at} {end} {r} (L.text {at' = mid} {text} {bytes} {after} {ps} {qs} w t c) hs hs' k a g =
      let f : Shifts hs qs hs' = shift_text hs hs' (part (Whole (TextBegins bytes)) at (at + (1 + length text))) ps qs (λ n. refl) (text_braces t) k in
      subst (Gives hs at (34 ∷ (text ++ after))) (sym (before_twice (part (Whole (TextBegins bytes)) at (at + (1 + length text)) ∷ ps) qs a)) (text_gives t hs hs at at 34 text bytes TextBegins refl w refl (before qs a) (cut_gives c hs hs' f a g))

  text_gives : {pos end : ℕ} {after r : List ℕ} {ps : List Part} → TextGoes pos after ps end r → (hs hs0 : Holes) (opening at0 b : ℕ) (text bytes : List ℕ) (token : List ℕ → Token) → pos ≡ at0 + (1 + length text) → Says text after bytes
      → step hs0 at0 b (text ++ after) ≡ text_step token hs opening at0 (run 0 (text ++ after)) → (a : Answer) → Gives hs end r a → Gives hs0 at0 (b ∷ (text ++ after)) (before (part (Whole (token bytes)) at0 pos ∷ ps) a)
  text_gives (L.ends {at} {rest}) hs hs0 opening at0 b text bytes token e w q a g =
      subst (λ n. Gives hs0 at0 (b ∷ (text ++ 34 ∷ rest)) (before (part (Whole (token bytes)) at0 n ∷ part (Whole TextEnds) n (n + 1) ∷ []) a)) (sym e) (ends_text hs hs0 opening at0 b text rest bytes token a w q (moved ((at0 + (1 + length text)) + 1) (ap (λ n. n + 1) e) g))
  text_gives (L.hole {at} {at' = mid} {end} {inner} {text = text1} {bytes = bytes1} {after = after1} {ps} {qs} c h w1 t) hs hs0 opening at0 b text bytes token e w q a g =
      let x = part (Whole (HoleEnds bytes1)) mid (mid + (1 + length text1)) in
      let ended : Gives ((opening, 0) ∷ hs) mid (125 ∷ (text1 ++ after1)) (before (x ∷ qs) a) = text_gives t hs ((opening, 0) ∷ hs) opening mid 125 text1 bytes1 HoleEnds refl w1 refl a g in
      let inside : Gives ((opening, 0) ∷ hs) (at + 2) inner (before ps (before (x ∷ qs) a)) = cut_gives c ((opening, 0) ∷ hs) ((opening, 0) ∷ hs) (0, h, refl) (before (x ∷ qs) a) ended in
      let came = comes_to_hole hs hs0 opening at0 b text inner bytes token (before ps (before (x ∷ qs) a)) w q (moved ((at0 + (1 + length text)) + 2) (ap (λ n. n + 2) e) inside) in
      let all : before (part (Whole (token bytes)) at0 (at0 + (1 + length text)) ∷ part (Whole HoleBegins) (at0 + (1 + length text)) ((at0 + (1 + length text)) + 2) ∷ []) (before ps (before (x ∷ qs) a))
      ≡ before (part (Whole (token bytes)) at0 (at0 + (1 + length text)) ∷ part (Whole HoleBegins) (at0 + (1 + length text)) ((at0 + (1 + length text)) + 2) ∷ (ps ++ x ∷ qs)) a =
      ap (before (part (Whole (token bytes)) at0 (at0 + (1 + length text)) ∷ part (Whole HoleBegins) (at0 + (1 + length text)) ((at0 + (1 + length text)) + 2) ∷ [])) (sym (before_twice ps (x ∷ qs) a)) ∙ sym (before_twice (part (Whole (token bytes)) at0 (at0 + (1 + length text)) ∷ part (Whole HoleBegins) (at0 + (1 + length text)) ((at0 + (1 + length text)) + 2) ∷ []) (ps ++ x ∷ qs) a) in
      subst (λ n. Gives hs0 at0 (b ∷ (text ++ 35 ∷ 123 ∷ inner)) (before (part (Whole (token bytes)) at0 n ∷ part (Whole HoleBegins) n (n + 2) ∷ (ps ++ x ∷ qs)) a)) (sym e) (subst (Gives hs0 at0 (b ∷ (text ++ 35 ∷ 123 ∷ inner))) all came)
