-- The loop over a source: what is done, and what is left.
use Rattle.std.proofs.Common.{◌≡◌, ℕ, ◌+◌, ◌<◌, ◌≤◌, ◌==◌, List, [], ◌∷◌, ◌++◌, length, drop, false, Option, Some, None, refl, sym, ap, ◌∙◌, arith, subst, append_assoc, length-append, lit<}
use Rattle.std.specs.Str.{IsUtf8, IsCharBoundary}
use Rattle.ex_grammar.specs.declared.token.LexErrorKind.{LexErrorKind}
use Rattle.ex_grammar.specs.declared.token.LexErrorKind.TheVariants.{OpenText}
use Rattle.ex_grammar.specs.declared.token.Token.{Token as CodeToken}
use Rattle.ex_grammar.specs.Tokens.{Token, Placed, TextBegins, HoleEnds}
use Rattle.ex_grammar.specs.Lexing.{Part}
use Rattle.ex_grammar.specs.Newlines.{Gap, Nothing, tokens_of, tokens_after, separators}
use Rattle.ex_grammar.specs.Coded.{ArePlaced}
use Rattle.ex_lexer.specs.declared.lexer.Hole.{Hole}
use Rattle.ex_lexer.specs.declared.lexer.Step.TheVariants as C
use Rattle.ex_lexer.specs.declared.settled.Settled.{Settled}
use Rattle.ex_lexer.specs.declared.texts.Stop.{Stop}
use Rattle.ex_lexer.specs.declared.texts.Stop.TheVariants.{Quote, Hole as AtHole, End, Escape}
use Rattle.ex_lexer.specs.Runs.{run}
use Rattle.ex_lexer.specs.Front.{Front, Takes, Fails, front}
use Rattle.ex_lexer.specs.Machine.{Holes, Step, Goes, Refuses, stop_by, text_step, piece_step, ends_hole, outer, opening_of, step, Answer, Cuts, Fault, before as put_before, Gives, over, refused, onward}
use Rattle.ex_lexer.specs.Settled.{gap_of, IsSettled}
use Rattle.ex_lexer.specs.Open.{AreOuter, IsOpen, IsDone, step_at}
use Rattle.ex_lexer.specs.Lexed.{HasTokens, IsBad}
use Rattle.ex_lexer.proofs.Bools.{chosen, if_true, if_false}
use Rattle.ex_lexer.proofs.Sounds.{Answers, front_found, run_found, StopsAt, ends_ascii}
use Rattle.ex_lexer.proofs.Cuts.{before_twice, before_nothing}
use Rattle.ex_lexer.proofs.Wholes.{has_tokens, is_bad}

-- where the loop is
pub record Running (source rest : List ℕ) (at : ℕ) (s : Settled) (inner : Option Hole) (outer : List Hole) : Type 0 where
  pub holes : Holes
  pub done : List Part
  pub made : List Placed
  pub before : Option Token
  pub open' : IsOpen at inner outer holes
  pub settled : IsSettled s.tokens.items s.drops made before
  pub gives : (a : Answer) → Gives holes at rest a → Gives [] 0 source (put_before done a)
  pub tokens : (qs : List Part) → tokens_of (done ++ qs) ≡ made ++ tokens_after before (gap_of s.gap) qs

outer_wider : (n m : ℕ) (xs : List Hole) (hs : Holes) → n ≤ m → AreOuter n xs hs → AreOuter m xs hs
outer_wider n m xs [] w h = h
outer_wider n m xs (k ∷ hs) w h = (h.0, h.1, h.2, record { opening = h.3.opening; braces = h.3.braces; small = let q = h.3.small in omega arith }, outer_wider n m h.0 hs w h.4)

pub open_wider : (n m : ℕ) (inner : Option Hole) (xs : List Hole) (hs : Holes) → n ≤ m → IsOpen n inner xs hs → IsOpen m inner xs hs
open_wider n m None xs [] w h = h
open_wider n m None xs (k ∷ hs) w h = absurd h
open_wider n m (Some x) xs [] w h = absurd h
open_wider n m (Some x) xs (k ∷ hs) w h = (record { opening = h.0.opening; braces = h.0.braces; small = let q = h.0.small in omega arith }, outer_wider n m xs hs w h.1)

pub running_start : (source : List ℕ) (s : Settled) → s.tokens.items ≡ [] → gap_of s.gap ≡ Nothing → s.drops ≡ false → (outer : List Hole) → outer ≡ [] → Running source source 0 s None outer
running_start source s e g d outer o = record {
  holes = [];
  done = [];
  made = [];
  before = None;
  open' = o;
  settled = record { shown = subst (λ v. ArePlaced v []) (sym e) tt; same = d };
  gives = λ a h. subst (Gives [] 0 source) (sym (before_nothing a)) h;
  tokens = λ qs. ap (λ v. tokens_after None v qs) (sym g);
}

-- a step that goes on
pub running_turn : (source rest rest' : List ℕ) (at n : ℕ) (s s' : Settled) (inner inner' : Option Hole) (outer outer' : List Hole) (r : Running source rest at s inner outer) → 0 < n
    → IsDone (at + 1) r.made r.before (gap_of s.gap) (step_at r.holes at rest) s' inner' outer' (C.Goes n) → rest' ≡ drop n rest → Running source rest' (at + n) s' inner' outer'
running_turn source [] rest' at n s s' inner inner' outer outer' r some d e = absurd d
running_turn source (b ∷ bytes) rest' at n s s' inner inner' outer outer' r some d e = of (step r.holes at b bytes) refl d
  where
    of : (x : Step) → step r.holes at b bytes ≡ x → IsDone (at + 1) r.made r.before (gap_of s.gap) x s' inner' outer' (C.Goes n) → Running source rest' (at + n) s' inner' outer'
    of (Refuses p k) f d = absurd d
    of (Goes ps holes m) f d =
        let a = d.2 in
        record {
          holes = holes;
          done = r.done ++ ps;
          made = a.made';
          before = a.before';
          open' = open_wider (at + 1) (at + n) inner' outer' holes (omega arith) d.1;
          settled = a.settled;
          gives = λ x h. subst (Gives [] 0 source) (sym (before_twice r.done ps x)) (r.gives (put_before ps x) (onward f (subst (λ v. Gives holes (at + v) (drop v (b ∷ bytes)) x) d.0 (subst (λ v. Gives holes (at + n) v x) e h))));
          tokens = λ qs. ap tokens_of (append_assoc r.done ps qs) ∙ (r.tokens (ps ++ qs) ∙ a.goes qs);
        }

-- a step that refuses
pub running_refused : (source rest : List ℕ) (at p : ℕ) (k : LexErrorKind) (s s' : Settled) (inner inner' : Option Hole) (outer outer' : List Hole) (r : Running source rest at s inner outer) → IsUtf8 source
    → IsDone (at + 1) r.made r.before (gap_of s.gap) (step_at r.holes at rest) s' inner' outer' (C.Refuses p k) → 0 < length rest → IsBad source p k
running_refused source [] at p k s s' inner inner' outer outer' r u d some = absurd (omega arith)
running_refused source (b ∷ bytes) at p k s s' inner inner' outer outer' r u d some = of (step r.holes at b bytes) refl d
  where
    of : (x : Step) → step r.holes at b bytes ≡ x → IsDone (at + 1) r.made r.before (gap_of s.gap) x s' inner' outer' (C.Refuses p k) → IsBad source p k
    of (Goes ps holes m) f d = absurd d
    of (Refuses q j) f d = subst (λ v. IsBad source v k) (sym d.0) (subst (IsBad source q) (sym d.1) (is_bad source q j u (r.gives (Fault q j) (refused f))))

-- the source's end
pub running_open : (source rest : List ℕ) (at : ℕ) (s : Settled) (x : Hole) (inner : Option Hole) (outer : List Hole) → Running source rest at s inner outer → inner ≡ Some x → rest ≡ [] → IsUtf8 source → IsBad source x.opening OpenText
running_open source rest at s x inner outer r f e u = of r.holes (subst (λ v. IsOpen at v outer r.holes) f r.open') (λ a g. r.gives a (subst (λ v. Gives r.holes at v a) (sym e) g))
  where
    of : (holes : Holes) → IsOpen at (Some x) outer holes → ((a : Answer) → Gives holes at [] a → Gives [] 0 source (put_before r.done a)) → IsBad source x.opening OpenText
    of [] o g = absurd o
    of (h ∷ hs) o g = subst (λ v. IsBad source v OpenText) (sym o.0.opening) (is_bad source h.0 OpenText u (g (Fault h.0 OpenText) over))

pub running_out : (source rest : List ℕ) (at : ℕ) (s : Settled) (xs : List CodeToken) (inner : Option Hole) (outer : List Hole) (r : Running source rest at s inner outer) → inner ≡ None → rest ≡ [] → IsUtf8 source
    → ArePlaced xs (r.made ++ separators r.before (gap_of s.gap) None) → HasTokens source xs
running_out source rest at s xs inner outer r f e u h = of r.holes (subst (λ v. IsOpen at v outer r.holes) f r.open') (λ a g. r.gives a (subst (λ v. Gives r.holes at v a) (sym e) g))
  where
    of : (holes : Holes) → IsOpen at None outer holes → ((a : Answer) → Gives holes at [] a → Gives [] 0 source (put_before r.done a)) → HasTokens source xs
    of (k ∷ hs) o g = absurd o
    of [] o g = has_tokens source xs (r.done ++ []) u (g (Cuts []) over) (subst (ArePlaced xs) (sym (r.tokens [])) h)

-- how far a step goes
abbrev pub StepFits : List ℕ → Step → Type 0
StepFits s (Goes ps hs n) = (0 < n) × (n ≤ length s) × IsCharBoundary s n
StepFits s (Refuses at k) = Unit {0}

fits_at : (b : ℕ) (text more : List ℕ) (c n : ℕ) → c < 128 → n ≡ length ((b ∷ text) ++ c ∷ []) → IsUtf8 (b ∷ (text ++ c ∷ more)) → (0 < n) × (n ≤ length (b ∷ (text ++ c ∷ more))) × IsCharBoundary (b ∷ (text ++ c ∷ more)) n
fits_at b text more c n lt e u =
    let a : b ∷ (text ++ c ∷ more) ≡ ((b ∷ text) ++ c ∷ []) ++ more = sym (append_assoc (b ∷ text) (c ∷ []) more) in
    (omega (arith, e), omega (arith, e, length-append text (c ∷ more), length-append text (c ∷ [])), subst (λ v. IsCharBoundary v n) (sym a) (subst (IsCharBoundary (((b ∷ text) ++ c ∷ []) ++ more)) (sym e) (ends_ascii (b ∷ text) more c lt (subst IsUtf8 a u))))

text_fits : (b : ℕ) (text rest : List ℕ) (s : Stop) (hs : Holes) (o at n : ℕ) (ps : List Part) → StopsAt s rest → n ≡ 1 + length text → IsUtf8 (b ∷ (text ++ rest)) → StepFits (b ∷ (text ++ rest)) (stop_by s hs o at n ps)
text_fits b text rest Quote hs o at n ps k e u =
    subst (λ v. IsUtf8 (b ∷ (text ++ v)) → StepFits (b ∷ (text ++ v)) (stop_by Quote hs o at n ps)) (sym k.1) (λ u. fits_at b text k.0 34 (n + 1) (lit< tt) (omega (arith, length-append text (34 ∷ []))) u) u
text_fits b text rest AtHole hs o at n ps k e u =
    subst (λ v. IsUtf8 (b ∷ (text ++ v)) → StepFits (b ∷ (text ++ v)) (stop_by AtHole hs o at n ps)) (sym k.1) (λ u. hole u) u
  where
    hole : IsUtf8 (b ∷ (text ++ 35 ∷ 123 ∷ k.0)) → (0 < n + 2) × (n + 2 ≤ length (b ∷ (text ++ 35 ∷ 123 ∷ k.0))) × IsCharBoundary (b ∷ (text ++ 35 ∷ 123 ∷ k.0)) (n + 2)
    hole u =
        let a : text ++ 35 ∷ 123 ∷ k.0 ≡ (text ++ 35 ∷ []) ++ 123 ∷ k.0 = sym (append_assoc text (35 ∷ []) (123 ∷ k.0)) in
        let f = fits_at b (text ++ 35 ∷ []) k.0 123 (n + 2) (lit< tt) (omega (arith, length-append (text ++ 35 ∷ []) (123 ∷ []), length-append text (35 ∷ []))) (subst (λ v. IsUtf8 (b ∷ v)) a u) in
        (f.0, subst (λ v. n + 2 ≤ length (b ∷ v)) (sym a) f.1, subst (λ v. IsCharBoundary (b ∷ v) (n + 2)) (sym a) f.2)
text_fits b text rest End hs o at n ps k e u = tt
text_fits b text rest Escape hs o at n ps k e u = tt

text_step_fits : (b : ℕ) (bytes : List ℕ) (hs : Holes) (o at : ℕ) (token : List ℕ → Token) → IsUtf8 (b ∷ bytes) → StepFits (b ∷ bytes) (text_step token hs o at (run 0 bytes))
text_step_fits b bytes hs o at token u =
    let r = run_found bytes in
    subst (λ v. StepFits (b ∷ v) (text_step token hs o at (run 0 bytes))) (sym r.parts) (text_fits b r.text r.rest (run 0 bytes).stop hs o (at + (1 + (run 0 bytes).len)) (1 + (run 0 bytes).len) _ r.stops (ap (λ n. 1 + n) r.len) (subst (λ v. IsUtf8 (b ∷ v)) r.parts u))

piece_fits : (s : List ℕ) (f : Front) (hs : Holes) (at : ℕ) → IsUtf8 s → Answers s f → StepFits s (piece_step f hs at)
piece_fits s (Fails n k) hs at u a = tt
piece_fits s (Takes p n) hs at u a = (omega (arith, a.len, a.some), omega (arith, a.len, ap length a.parts, length-append a.text a.rest), a.boundary u)

pub step_fits : (hs : Holes) (at b : ℕ) (bytes : List ℕ) → IsUtf8 (b ∷ bytes) → StepFits (b ∷ bytes) (step hs at b bytes)
step_fits hs at b bytes u = chosen (b == 34)
    (λ e. subst (StepFits (b ∷ bytes)) (sym (if_true _ _ _ e)) (text_step_fits b bytes hs at at TextBegins u))
    (λ e. subst (StepFits (b ∷ bytes)) (sym (if_false _ _ _ e)) (chosen (ends_hole b hs)
    (λ f. subst (StepFits (b ∷ bytes)) (sym (if_true _ _ _ f)) (text_step_fits b bytes (outer hs) (opening_of hs) at HoleEnds u))
    (λ f. subst (StepFits (b ∷ bytes)) (sym (if_false _ _ _ f)) (piece_fits (b ∷ bytes) (front (b ∷ bytes)) hs at u (front_found b bytes u e)))))

pub done_fits : (most at : ℕ) (made : List Placed) (before : Option Token) (gap : Gap) (holes : Holes) (rest : List ℕ) (new : Settled) (inner : Option Hole) (xs : List Hole) (n : ℕ) → IsUtf8 rest → 0 < length rest → IsDone most made before gap (step_at holes at rest) new inner xs (C.Goes n)
    → (0 < n) × (n ≤ length rest) × IsCharBoundary rest n
done_fits most at made before gap holes [] new inner xs n u l d = absurd (omega arith)
done_fits most at made before gap holes (b ∷ bytes) new inner xs n u l d = of (step holes at b bytes) (step_fits holes at b bytes u) d
  where
    of : (x : Step) → StepFits (b ∷ bytes) x → IsDone most made before gap x new inner xs (C.Goes n) → (0 < n) × (n ≤ length (b ∷ bytes)) × IsCharBoundary (b ∷ bytes) n
    of (Refuses p k) f d = absurd d
    of (Goes ps hs m) f d = subst (λ v. (0 < v) × (v ≤ length (b ∷ bytes)) × IsCharBoundary (b ∷ bytes) v) (sym d.0) f
