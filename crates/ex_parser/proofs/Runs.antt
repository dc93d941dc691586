-- The parser's loops: one expression, and the expressions of a source, one after the other.
use Rattle.std.proofs.Common.{◌≡◌, ◌≢◌, ◌⊎◌, inl, inr, ℕ, zero, suc, ◌+◌, ◌*◌, ◌<◌, ◌≤◌, true, false, List, [], ◌∷◌, ◌++◌, length, take, drop, get_or, refl, sym, ap, ◌∙◌, arith, subst, length-append, append_assoc}
use Rattle.std.specs.List.{AllByRecursion}
use Rattle.std.proofs.lemmas.List.{append-nil}
use Rattle.ex_grammar.specs.declared.token.Token.{Token as CodeToken}
use Rattle.ex_grammar.specs.declared.token.TokenKind.{TokenKind}
use Rattle.ex_grammar.specs.Tokens.{Token, Placed, Separator}
use Rattle.ex_grammar.specs.Coded.{IsToken, is_integer, is_name, is_called, is_alias, is_key, is_atom, is_word, is_sign, is_text_begins, is_hole_begins, is_hole_ends, is_text_ends, is_separator, ArePlaced}
use Rattle.ex_grammar.specs.Newlines.{Lexes, bare}
use Rattle.ex_grammar.specs.Trees.{Tree, Trees, NoTree, OneMore, joined}
use Rattle.ex_grammar.specs.Grammar as D
use Rattle.ex_grammar.specs.Grammar.{End, Derives, DeriveAll, DeriveSource, MaySeparate, without, with}
use Rattle.ex_grammar.specs.Nests.{Open, open_at, nests_from, nothing_open}
use Rattle.ex_grammar.specs.Reading.{NoTrees, IsSyntaxAt, NestsWithin, NestsTooDeep}
use Rattle.ex_lexer.specs.Lexed.{HasTokens}
use Rattle.ex_parser.specs.declared.tree.Node.{Node}
use Rattle.ex_parser.specs.declared.tree.Ast.{Ast}
use Rattle.ex_parser.specs.declared.parser.Parsed.TheVariants.{Trees as Found, Syntax as Unread}
use Rattle.ex_parser.specs.declared.parser.Pending.{Pending}
use Rattle.ex_parser.specs.declared.parser.Move.{Move}
use Rattle.ex_parser.specs.declared.parser.Move.TheVariants.{Wanted, Held as HeldAt, Finished, Failed}
use Rattle.ex_parser.specs.Follow.{after_separator}
use Rattle.ex_parser.specs.Machine.{Frame, State, Want, Have, Done, Stuck, step, is_over, Reaches, here, there, EndsAt, GoesOff, IsNoWhole}
use Rattle.ex_parser.specs.Stands.{IsAt, AreAt}
use Rattle.ex_parser.specs.Shown.{token_of, tokens_of, AreTokens, IsStack, Shows, Grows, Turned}
use Rattle.ex_parser.specs.Parsed.{HasTrees, ParsedIs, IsReading, IsTooDeep, IsUnread}
use Rattle.ex_parser.proofs.Arena.{are_more}
use Rattle.ex_parser.proofs.Depths.{placed_at}
use Rattle.ex_parser.proofs.Laws.{front_shorter}
use Rattle.ex_parser.proofs.Lighter.{weight, lighter}
use Rattle.ex_parser.proofs.Places.{syntax_at, lexes_single, reading_is}
use Rattle.ex_parser.proofs.Reach.{and_on}
use Rattle.ex_parser.proofs.SoundBlocks.{front_of}
use Rattle.ex_parser.proofs.Spots.{Single, Beyond, IsBody, Spot, no_double, spot_start, spot_more, stuck_line, off_line}
use Rattle.ex_parser.proofs.Tops.{Parsing, parsing_begun, parsing_more, parsing_last, parsing_end, parsing_stuck, parsing_off}

-- one expression: the parser runs as the machine does
pub record Going (ns0 ns : List Node) (ps : List Pending) (all : List Token) (now : Move) (start : State) : Type 0 where
  pub st : State
  pub shows : Shows ns ps all now st
  pub reaches : Reaches start st
  pub grows : Grows ns0 ns

grows_on : (ns0 ns ns' : List Node) → Grows ns0 ns → Grows ns ns' → Grows ns0 ns'
grows_on ns0 ns ns' g h = (g.0 ++ h.0, h.1 ∙ (ap (λ v. v ++ h.0) g.1 ∙ append_assoc ns0 g.0 h.0))

pub going_start : (ns : List Node) (ps : List Pending) (all : List Token) (at : ℕ) → ps ≡ [] → Going ns ns ps all (Wanted at) (Want [] (drop at all))
going_start ns ps all at e = record { st = Want [] (drop at all); shows = (e, refl); reaches = here; grows = ([], sym (append-nil ns)) }

pub going_turn : (ns0 ns ns' : List Node) (ps ps' : List Pending) (all : List Token) (now m : Move) (start : State) → Going ns0 ns ps all now start
    → ((st : State) → Shows ns ps all now st → Turned ns ns' ps' all m (step st)) → Going ns0 ns' ps' all m start
going_turn ns0 ns ns' ps ps' all now m start g f =
    let t = f g.st g.shows in
    record { st = step g.st; shows = t.shows; reaches = and_on g.reaches (there here); grows = grows_on ns0 ns ns' g.grows t.grows }

stack_length : (ns : List Node) (ps : List Pending) (s : List Frame) → IsStack ns ps s → length ps ≡ length s
stack_length ns ps [] h = ap length h
stack_length ns ps (f ∷ s) h = omega (arith, ap length h.2, length-append h.0 (h.1 ∷ []), stack_length ns h.0 s h.4)

-- what is left to do, by the code's places and stack
abbrev pub code_weight : List Token → Move → List Pending → ℕ
code_weight all (Wanted at) ps = 1 + 2 * length (drop at all) + length ps
code_weight all (HeldAt h at) ps = 1 + 2 * length (drop at all) + length ps
code_weight all (Finished i at) ps = 0
code_weight all Failed ps = 0

same_weight : (ns : List Node) (ps : List Pending) (all : List Token) (m : Move) (st : State) → Shows ns ps all m st → code_weight all m ps ≡ weight st
same_weight ns ps all (Wanted at) (Want s ts) h = omega (arith, stack_length ns ps s h.0, ap length h.1)
same_weight ns ps all (HeldAt i at) (Have s v ts) h = omega (arith, stack_length ns ps s h.0, ap length h.2)
same_weight ns ps all (Finished i at) (Done t ts) h = refl
same_weight ns ps all Failed Stuck h = refl
same_weight ns ps all m st h = absurd h

pub going_falls : (ns0 ns ns' : List Node) (ps ps' : List Pending) (all : List Token) (now m : Move) (start : State) → (g : Going ns0 ns ps all now start)
    → ((st : State) → Shows ns ps all now st → Turned ns ns' ps' all m (step st)) → is_over g.st ≡ false → code_weight all m ps' < code_weight all now ps
going_falls ns0 ns ns' ps ps' all now m start g f over =
    omega (arith, same_weight ns ps all now g.st g.shows, same_weight ns' ps' all m (step g.st) (f g.st g.shows).shows, lighter g.st over)

-- the expression that was read
abbrev pub IsRead : List Node → List Node → List Pending → List Token → ℕ → ℕ → ℕ → Type 0
IsRead ns0 ns ps all from i end = Grows ns0 ns × (ps ≡ []) × ((t : Tree) × IsAt ns i t × Reaches (Want [] (drop from all)) (Done t (drop end all)))

pub going_done : (ns0 ns : List Node) (ps : List Pending) (all : List Token) (from i end : ℕ) → Going ns0 ns ps all (Finished i end) (Want [] (drop from all)) → IsRead ns0 ns ps all from i end
going_done ns0 ns ps all from i end g = of g.st g.shows g.reaches
  where
    of : (st : State) → Shows ns ps all (Finished i end) st → Reaches (Want [] (drop from all)) st → IsRead ns0 ns ps all from i end
    of (Want s rest) h r = absurd h
    of (Have s v rest) h r = absurd h
    of (Done t rest) h r = (g.grows, h.0, (t, h.1, subst (λ v. Reaches (Want [] (drop from all)) (Done t v)) h.2 r))
    of Stuck h r = absurd h

pub going_failed : (ns0 ns : List Node) (ps : List Pending) (all : List Token) (m : Move) (start : State) → (g : Going ns0 ns ps all m start) → is_over g.st ≡ true → ((i at : ℕ) → m ≡ Finished i at → ⊥) → Reaches start Stuck
going_failed ns0 ns ps all m start g over never = of m g.st over never g.shows g.reaches
  where
    of : (m : Move) (st : State) → is_over st ≡ true → ((i at : ℕ) → m ≡ Finished i at → ⊥) → Shows ns ps all m st → Reaches start st → Reaches start Stuck
    of Failed Stuck o n h r = r
    of (Finished i at) st o n h r = absurd (n i at refl)
    of (Wanted at) (Want s ts) o n h r = absurd (cc)
    of (HeldAt i at) (Have s v ts) o n h r = absurd (cc)
    of m st o n h r = absurd h

-- an expression up to a separator or the end of the tokens
abbrev pub IsWhole : List Node → List Node → List Pending → List Token → ℕ → ℕ → ℕ → Type 0
IsWhole ns0 ns ps all from i next = Grows ns0 ns × (ps ≡ []) × ((t : Tree) × (end : List Token) × IsAt ns i t × Reaches (Want [] (drop from all)) (Done t end) × EndsAt end (drop next all))

pub whole : (ns0 ns : List Node) (ps : List Pending) (all : List Token) (from i end next : ℕ) → IsRead ns0 ns ps all from i end → EndsAt (drop end all) (drop next all) → IsWhole ns0 ns ps all from i next
whole ns0 ns ps all from i end next r e = (r.0, r.1, (r.2.0, drop end all, r.2.1, r.2.2, e))

pub goes_off : (ns0 ns : List Node) (ps : List Pending) (all : List Token) (from i end : ℕ) → IsRead ns0 ns ps all from i end → GoesOff (drop end all) → IsNoWhole (drop from all)
goes_off ns0 ns ps all from i end r g = inr (r.2.0, drop end all, r.2.2, g)

-- one expression more in a body
one_and : {e : End} {ts us : List Token} {xs : Trees} {t : Tree} → DeriveAll ts xs → Derives 0 e us t → DeriveAll (ts ++ Separator ∷ us) (joined xs (OneMore t NoTree))
one_and (D.last_one d) k = D.one_more d (D.last_one k)
one_and {us = us} {t = t} (D.one_more {ts = ts} {us = vs} {t = u} {u = w} {xs} d ds) k = subst (λ v. DeriveAll v (OneMore u (joined (OneMore w xs) (OneMore t NoTree)))) (sym (append_assoc ts (Separator ∷ vs) (Separator ∷ us))) (D.one_more d (one_and ds k))

source_and : {e : End} {before us : List Token} {xs : Trees} {t : Tree} (all rest : List Token) → Single all → DeriveSource before xs → all ≡ before ++ Separator ∷ rest → Derives 0 e us t → DeriveSource (before ++ Separator ∷ us) (joined xs (OneMore t NoTree))
source_and {us = us} {t = t} all rest s (D.no_expression without) f k = subst (λ w. DeriveSource (Separator ∷ w) (OneMore t NoTree)) (append-nil us) (D.expressions with (D.last_one k) without)
source_and all rest s (D.no_expression with) f k = absurd (no_double [] rest (subst Single f s))
source_and {us = us} {t = t} all rest s (D.expressions {ts} {sep} {xs = xs} m d without) f k =
    subst (λ w. DeriveSource w (joined xs (OneMore t NoTree)))
    (ap (λ w. sep ++ w) (append-nil (ts ++ Separator ∷ us)) ∙ (sym (append_assoc sep ts (Separator ∷ us)) ∙ ap (λ w. (sep ++ w) ++ Separator ∷ us) (sym (append-nil ts))))
    (D.expressions m (one_and d k) without)
source_and all rest s (D.expressions {ts} {sep} {xs = xs} m d with) f k =
    absurd (no_double (sep ++ ts) rest (subst Single (f ∙ (ap (λ w. w ++ Separator ∷ rest) (sym (append_assoc sep ts (Separator ∷ []))) ∙ append_assoc (sep ++ ts) (Separator ∷ []) (Separator ∷ rest))) s))

-- the body before the next expression
next_body : (all cur next : List Token) (t : Tree) → Single all → IsBody all cur ⊎ ((cur ≡ all) × (after_separator all ≡ all)) → Reaches (Want [] cur) (Done t (Separator ∷ next)) → IsBody all next
next_body all cur next t s (inl b) r =
    let f = front_of cur t (Separator ∷ next) r in
    let e : all ≡ b.before ++ Separator ∷ (f.xs ++ Separator ∷ next) = b.split ∙ ap (λ v. b.before ++ Separator ∷ v) f.split in
    record {
      before = b.before ++ Separator ∷ f.xs;
      trees = joined b.trees (OneMore t NoTree);
      derives = source_and all (f.xs ++ Separator ∷ next) s b.derives e f.derives;
      split = e ∙ sym (append_assoc b.before (Separator ∷ f.xs) (Separator ∷ next));
    }
next_body all cur next t s (inr h) r =
    let f = front_of cur t (Separator ∷ next) r in
    record {
      before = f.xs;
      trees = OneMore t NoTree;
      derives = subst (λ w. DeriveSource w (OneMore t NoTree)) (append-nil f.xs) (D.expressions without (D.last_one f.derives) without);
      split = sym h.0 ∙ f.split;
    }

next_spot : (all cur next : List Token) (t : Tree) → Single all → Spot all cur → Reaches (Want [] cur) (Done t (Separator ∷ next)) → Spot all next
next_spot all cur next t s p r = let b = next_body all cur next t s p.begun r in spot_more all cur next b.before b.trees t p b.derives b.split r

-- the expressions so far stand among the nodes, and the next one begins here
pub record SoFar (ns : List Node) (roots : List ℕ) (all : List Token) (at : ℕ) : Type 0 where
  pub done : Trees
  pub are : AreAt ns roots done
  pub parsing : Parsing all (drop at all) done
  pub spot : Single all → drop at all ≢ [] → Spot all (drop at all)

pub so_far_start : (ns : List Node) (roots : List ℕ) (all : List Token) (at : ℕ) → roots ≡ [] → drop at all ≡ after_separator all → SoFar ns roots all at
so_far_start ns roots all at r e = record {
  done = NoTree;
  are = r;
  parsing = subst (λ v. Parsing all v NoTree) (sym e) (parsing_begun all);
  spot = λ s some. subst (λ v. Spot all v) (sym e) (spot_start all s);
}

are_and : (ns : List Node) (js : List ℕ) (ts : Trees) (i : ℕ) (t : Tree) → AreAt ns js ts → IsAt ns i t → AreAt ns (js ++ i ∷ []) (joined ts (OneMore t NoTree))
are_and ns js NoTree i t h k = subst (λ v. AreAt ns (v ++ i ∷ []) (OneMore t NoTree)) (sym h) (i, [], refl, k, refl)
are_and ns js (OneMore u us) i t h k = (h.0, h.1 ++ i ∷ [], ap (λ v. v ++ i ∷ []) h.2, h.3, are_and ns h.1 us i t h.4 k)

some_left : (xs : List CodeToken) (at : ℕ) → at < length xs → drop at (tokens_of xs) ≢ []
some_left [] at lt e = omega arith
some_left (x ∷ xs) zero lt e = absurd (cc)
some_left (x ∷ xs) (suc at) lt e = some_left xs at (omega arith) e

none_left : (xs : List CodeToken) (at : ℕ) → length xs ≤ at → drop at (tokens_of xs) ≡ []
none_left [] zero le = refl
none_left [] (suc at) le = refl
none_left (x ∷ xs) zero le = absurd (omega arith)
none_left (x ∷ xs) (suc at) le = none_left xs at (omega arith)

pub so_far_turn : (ns ns' : List Node) (ps' : List Pending) (roots roots' : List ℕ) (xs : List CodeToken) (at i next : ℕ) → SoFar ns roots (tokens_of xs) at → at < length xs → IsWhole ns ns' ps' (tokens_of xs) at i next → roots' ≡ roots ++ i ∷ [] → SoFar ns' roots' (tokens_of xs) next
so_far_turn ns ns' ps' roots roots' xs at i next p lt w e = record {
  done = joined p.done (OneMore w.2.0 NoTree);
  are = subst (λ v. AreAt ns' v (joined p.done (OneMore w.2.0 NoTree))) (sym e) (are_and ns' roots p.done i w.2.0 (subst (λ v. AreAt v roots p.done) (sym w.0.1) (are_more ns w.0.0 roots p.done p.are)) w.2.2);
  parsing = (of w.2.1 w.2.3 w.2.4).0;
  spot = (of w.2.1 w.2.3 w.2.4).1;
}
  where
    of : (end : List Token) → Reaches (Want [] (drop at (tokens_of xs))) (Done w.2.0 end) → EndsAt end (drop next (tokens_of xs))
        → Parsing (tokens_of xs) (drop next (tokens_of xs)) (joined p.done (OneMore w.2.0 NoTree)) × (Single (tokens_of xs) → drop next (tokens_of xs) ≢ [] → Spot (tokens_of xs) (drop next (tokens_of xs)))
    of [] r f = (subst (λ v. Parsing (tokens_of xs) v (joined p.done (OneMore w.2.0 NoTree))) (sym f) (parsing_last (tokens_of xs) (drop at (tokens_of xs)) p.done w.2.0 p.parsing (some_left xs at lt) r), λ s some. absurd (some f))
    of (Separator ∷ ts) r f = (subst (λ v. Parsing (tokens_of xs) v (joined p.done (OneMore w.2.0 NoTree))) (sym f) (parsing_more (tokens_of xs) (drop at (tokens_of xs)) ts p.done w.2.0 p.parsing (some_left xs at lt) r), λ s some. subst (λ v. Spot (tokens_of xs) v) (sym f) (next_spot (tokens_of xs) (drop at (tokens_of xs)) ts w.2.0 s (p.spot s (some_left xs at lt)) r))
    of (u ∷ ts) r f = absurd f

-- the loop goes forward
left_shorter : (end rest : List Token) → EndsAt end rest → length rest ≤ length end
left_shorter [] rest f = omega (arith, ap length f)
left_shorter (Separator ∷ ts) rest f = omega (arith, ap length f)
left_shorter (u ∷ ts) rest f = absurd f

pub whole_further : (ns0 ns : List Node) (ps : List Pending) (all : List Token) (from i next : ℕ) → IsWhole ns0 ns ps all from i next → length (drop next all) < length (drop from all)
whole_further ns0 ns ps all from i next w = omega (arith, front_shorter (drop from all) w.2.0 w.2.1 w.2.3, left_shorter w.2.1 (drop next all) w.2.4)

-- the tokens of the code
token_is : {k : TokenKind} {t : Token} → IsToken k t → token_of k ≡ t
token_is (is_integer lt) = refl
token_is is_name = refl
token_is is_called = refl
token_is is_alias = refl
token_is is_key = refl
token_is is_atom = refl
token_is is_word = refl
token_is is_sign = refl
token_is is_text_begins = refl
token_is is_hole_begins = refl
token_is is_hole_ends = refl
token_is is_text_ends = refl
token_is is_separator = refl

tokens_bare : (xs : List CodeToken) (ts : List Placed) → ArePlaced xs ts → tokens_of xs ≡ bare ts
tokens_bare [] [] a = refl
tokens_bare [] (t ∷ ts) a = absurd a
tokens_bare (x ∷ xs) [] a = absurd a
tokens_bare (x ∷ xs) (t ∷ ts) a = ap (λ v. v ∷ tokens_of xs) (token_is a.0.0) ∙ ap (λ v. t.token ∷ v) (tokens_bare xs ts a.1)

pub placed_tokens : (xs : List CodeToken) (ts : List Placed) → ArePlaced xs ts → AreTokens xs
placed_tokens [] ts a = tt
placed_tokens (x ∷ xs) [] a = absurd a
placed_tokens (x ∷ xs) (t ∷ ts) a = (subst (λ v. IsToken x.kind v) (sym (token_is a.0.0)) a.0.0, placed_tokens xs ts a.1)

-- the tokens from a place on
bare_from : (ts : List Placed) (at : ℕ) (t : Placed) → ts ≡ take at ts ++ t ∷ drop (at + 1) ts → drop at (bare ts) ≡ bare (t ∷ drop (at + 1) ts)
bare_from [] zero t e = absurd (cc)
bare_from [] (suc at) t e = absurd (cc)
bare_from (u ∷ ts) zero t e = ap bare e
bare_from (u ∷ ts) (suc at) t e = let f : suc at + 1 ≡ suc (at + 1) = omega arith in rw f (bare_from ts at t (let g = rw f at e in cc))

-- no expression was read
abbrev NoWhole : List Token → Type 0
NoWhole cur = (all : List Token) (done : Trees) → Parsing all cur done → cur ≢ [] → NoTrees all × ((rest : List Token) → Beyond cur rest → ⊥)

no_whole : (cur : List Token) → IsNoWhole cur → NoWhole cur
no_whole cur (inl r) all done p some = (parsing_stuck all cur done p some r, λ rest b. stuck_line r b)
no_whole cur (inr h) all done p some = (parsing_off all cur h.1 done h.0 p some h.2 (off_some h.1 h.3) (off_never h.1 h.3), λ rest b. off_line h.2 (off_never h.1 h.3) b)
  where
    off_some : (off : List Token) → GoesOff off → off ≢ []
    off_some [] g e = g
    off_some (u ∷ us) g e = absurd (cc)

    off_never : (off : List Token) → GoesOff off → (after : List Token) → off ≡ Separator ∷ after → ⊥
    off_never [] g after e = g
    off_never (u ∷ us) g after e = subst GoesOff e g

pub unread : (ns : List Node) (roots : List ℕ) (xs : List CodeToken) (at : ℕ) (x : CodeToken) → SoFar ns roots (tokens_of xs) at → at < length xs → IsNoWhole (drop at (tokens_of xs)) → (source : List ℕ) (ts : List Placed) → Lexes source ts → ArePlaced xs ts → ParsedIs ts (Unread (get_or xs at x).from)
unread ns roots xs at x p lt n source ts l a =
    let e = tokens_bare xs ts a in
    let k = placed_at xs ts a at x lt in
    let q = no_whole (drop at (tokens_of xs)) n (tokens_of xs) p.done p.parsing (some_left xs at lt) in
    let from : drop at (tokens_of xs) ≡ bare (k.token ∷ drop (at + 1) ts) = ap (drop at) e ∙ bare_from ts at k.token k.split in
    let s = lexes_single l in
    let spot : Spot (bare ts) (bare (k.token ∷ drop (at + 1) ts)) = subst (λ v. Spot v (bare (k.token ∷ drop (at + 1) ts))) e (subst (λ v. Spot (tokens_of xs) v) from (p.spot (subst Single (sym e) s) (some_left xs at lt))) in (
      subst NoTrees e q.0,
      subst (λ v. IsSyntaxAt ts v) (sym k.is.1) (syntax_at ts (take at ts) k.token (drop (at + 1) ts) k.split s spot (λ rest b. q.1 rest (subst (λ v. Beyond v rest) (sym from) b))),
    )

pub all_read : (ns : List Node) (roots : List ℕ) (xs : List CodeToken) (at : ℕ) (tree : Ast) → SoFar ns roots (tokens_of xs) at → length xs ≤ at → tree.nodes.items ≡ ns → tree.roots.items ≡ roots → (source : List ℕ) (ts : List Placed) → Lexes source ts → ArePlaced xs ts → ParsedIs ts (Found tree)
all_read ns roots xs at tree p le f g source ts l a = (
  p.done,
  subst (λ v. AreAt v tree.roots.items p.done) (sym f) (subst (λ v. AreAt ns v p.done) (sym g) p.are),
  subst (λ v. HasTrees v p.done) (tokens_bare xs ts a) (parsing_end (tokens_of xs) p.done (subst (λ v. Parsing (tokens_of xs) v p.done) (none_left xs at le) p.parsing)),
)

-- what the source is read as
pub read_as : (source : List ℕ) (xs : List CodeToken) (tree : Ast) (h : HasTokens source xs) → NestsWithin (bare h.tokens) → ParsedIs h.tokens (Found tree) → IsReading source tree
read_as source xs tree h n p = reading_is source xs h tree p.0 n p.2 p.1

pub unread_at : (source : List ℕ) (xs : List CodeToken) (at : ℕ) (h : HasTokens source xs) → NestsWithin (bare h.tokens) → ParsedIs h.tokens (Unread at) → IsUnread source at
unread_at source xs at h n p = record {
  tokens = h.tokens;
  lexes = h.lexes;
  within = n;
  none = p.0;
  place = p.1;
  unread = λ trees r. p.0 trees (subst (λ v. DeriveSource (bare v) trees) (h.only r.tokens r.lexes) r.derives);
}

-- the levels at a front's tokens are the same in the whole
front_within : (open' : Open) (ts us : List Token) → AllByRecursion (λ n. n ≤ 256) (nests_from open' (ts ++ us)) → AllByRecursion (λ n. n ≤ 256) (nests_from open' ts)
front_within open' [] us h = tt
front_within open' (t ∷ ts) us h = (h.0, front_within (open_at open' t) ts us h.1)

bare_both : (ts us : List Placed) → bare (ts ++ us) ≡ bare ts ++ bare us
bare_both [] us = refl
bare_both (t ∷ ts) us = ap (λ w. t.token ∷ w) (bare_both ts us)

-- tokens that nest too deep don't nest within the levels
too_deep : (tokens : List Placed) (at : ℕ) → NestsTooDeep tokens at → NestsWithin (bare tokens) → ⊥
too_deep tokens at d n =
    let front : List Placed = d.before ++ d.first ∷ [] in
    let whole : bare tokens ≡ bare front ++ bare d.after = ap bare (d.tokens_are ∙ sym (append_assoc d.before (d.first ∷ []) d.after)) ∙ bare_both front d.after in
    d.opens (front_within nothing_open (bare front) (bare d.after) (subst NestsWithin whole n))

pub too_deep_at : (source : List ℕ) (xs : List CodeToken) (at : ℕ) (h : HasTokens source xs) → NestsTooDeep h.tokens at → IsTooDeep source at
too_deep_at source xs at h d = record {
  tokens = h.tokens;
  lexes = h.lexes;
  opens = d;
  unread = λ trees r. too_deep h.tokens at d (subst (λ v. NestsWithin (bare v)) (h.only r.tokens r.lexes) r.nests_within);
}
