-- The parser's loops.
use Rattle.std.proofs.Common.{◌≡◌, ◌≢◌, inl, inr, ℕ, ◌+◌, ◌*◌, ◌<◌, ◌≤◌, true, false, List, [], ◌∷◌, ◌++◌, length, drop, Some, None, refl, sym, ap, ◌∙◌, arith, subst, length-append, length-drop, append_assoc}
use Rattle.std.proofs.lemmas.List.{append-nil}
use Rattle.ex_model.specs.declared.ast.Node.{Node}
use Rattle.ex_model.specs.Tokens.{Token, Separator}
use Rattle.ex_model.specs.Tree.{Tree}
use Rattle.ex_model.specs.At.{IsAt, AreAt}
use Rattle.ex_model.specs.Grammar.{Top}
use Rattle.ex_model.proofs.Arena.{are_more, are_and}
use Rattle.ex_source.specs.declared.lexeme.Lexeme.{Lexeme}
use Rattle.ex_source.specs.declared.lexeme.Lexeme.TheVariants as X
use Rattle.ex_source.specs.declared.lexeme.Mark.{Mark}
use Rattle.ex_source.specs.declared.lexeme.Mark.TheVariants as M
use Rattle.ex_source.specs.declared.parser.Pending.{Pending}
use Rattle.ex_source.specs.declared.parser.Move.{Move}
use Rattle.ex_source.specs.declared.parser.Move.TheVariants.{Wanted, Held, Finished, Failed}
use Rattle.ex_source.specs.Lexemes.{IsLexeme, is_separator, is_integer, is_name, is_mark, AreLexemes, mark_token}
use Rattle.ex_source.specs.Machine.{Frame, State, Want, Have, Done, Stuck, want, have, step, Reaches, here, there}
use Rattle.ex_source.specs.Shown.{IsStack, Shows, Grows, Turned, is_over, ReadsOne, first_at, IsAfter, HasTrees}
use Rattle.ex_source.proofs.Complete.{and_on}
use Rattle.ex_source.proofs.Laws.{weight, falls, front_shorter}
use Rattle.ex_source.proofs.Stacks.{taken, none_left}
use Rattle.ex_source.proofs.Depths.{same_length}
use Rattle.ex_source.proofs.Bodies.{Parsing, parsing_begun, parsing_plain, parsing_last, parsing_more, parsing_stuck, parsing_off, parsing_end}

-- one step
pub step_wanted : (ns ns' : List Node) (ps ps' : List Pending) (all : List Token) (now m : Move) (at : ℕ) (st : State) → now ≡ Wanted at → Shows ns ps all now st
    → ((s : List Frame) (rest : List Token) → IsStack ns ps s → rest ≡ drop at all → Turned ns ns' ps' all m (want s rest)) → Turned ns ns' ps' all m (step st)
step_wanted ns ns' ps ps' all now m at st e h f = of st (subst (λ v. Shows ns ps all v st) e h)
  where
    of : (st : State) → Shows ns ps all (Wanted at) st → Turned ns ns' ps' all m (step st)
    of (Want s rest) h = f s rest h.0 h.1
    of (Have s t rest) h = absurd h
    of (Done t rest) h = absurd h
    of Stuck h = absurd h

pub step_held : (ns ns' : List Node) (ps ps' : List Pending) (all : List Token) (now m : Move) (at i : ℕ) (st : State) → now ≡ Held at i → Shows ns ps all now st
    → ((s : List Frame) (t : Tree) (rest : List Token) → IsStack ns ps s → IsAt ns i t → rest ≡ drop at all → Turned ns ns' ps' all m (have s t rest)) → Turned ns ns' ps' all m (step st)
step_held ns ns' ps ps' all now m at i st e h f = of st (subst (λ v. Shows ns ps all v st) e h)
  where
    of : (st : State) → Shows ns ps all (Held at i) st → Turned ns ns' ps' all m (step st)
    of (Want s rest) h = absurd h
    of (Have s t rest) h = f s t rest h.0 h.1 h.2
    of (Done t rest) h = absurd h
    of Stuck h = absurd h

-- one expression: the parser runs as the machine does
pub record Going (ns0 ns : List Node) (ps : List Pending) (all : List Token) (now : Move) (start : State) : Type 0 where
  pub st : State
  pub shows : Shows ns ps all now st
  pub reaches : Reaches start st
  pub grows : Grows ns0 ns

pub going_start : (ns : List Node) (ps : List Pending) (all : List Token) (at : ℕ) → ps ≡ [] → Going ns ns ps all (Wanted at) (Want [] (drop at all))
going_start ns ps all at e = record { st = Want [] (drop at all); shows = (e, refl); reaches = here; grows = ([], sym (append-nil ns)) }

pub going_turn : (ns0 ns ns' : List Node) (ps ps' : List Pending) (all : List Token) (now m : Move) (start : State) → Going ns0 ns ps all now start
    → ((st : State) → Shows ns ps all now st → Turned ns ns' ps' all m (step st)) → Going ns0 ns' ps' all m start
going_turn ns0 ns ns' ps ps' all now m start g f =
    let t = f g.st g.shows in
    record {
      st = step g.st;
      shows = t.shows;
      reaches = and_on g.reaches (there here);
      grows = (g.grows.0 ++ t.grows.0, t.grows.1 ∙ (ap (λ v. v ++ t.grows.0) g.grows.1 ∙ append_assoc ns0 g.grows.0 t.grows.0));
    }

stack_length : (ns : List Node) (ps : List Pending) (s : List Frame) → IsStack ns ps s → length ps ≡ length s
stack_length ns ps [] h = ap length h
stack_length ns ps (f ∷ s) h = omega (arith, ap length h.2, length-append h.0 (h.1 ∷ []), stack_length ns h.0 s h.4)

abbrev pub code_weight : List Lexeme → Move → List Pending → ℕ
code_weight xs (Wanted at) ps = 1 + 2 * length (drop at xs) + length ps
code_weight xs (Held at i) ps = 1 + 2 * length (drop at xs) + length ps
code_weight xs (Finished at i) ps = 0
code_weight xs Failed ps = 0

left_same : (xs : List Lexeme) (all : List Token) (at : ℕ) → AreLexemes xs all → length (drop at xs) ≡ length (drop at all)
left_same xs all at a = omega (arith, length-drop at xs, length-drop at all, same_length xs all a)

same_weight : (ns : List Node) (ps : List Pending) (xs : List Lexeme) (all : List Token) (m : Move) (st : State) → AreLexemes xs all → Shows ns ps all m st → code_weight xs m ps ≡ weight st
same_weight ns ps xs all (Wanted at) (Want s ts) a h = omega (arith, stack_length ns ps s h.0, ap length h.1, left_same xs all at a)
same_weight ns ps xs all (Held at i) (Have s t ts) a h = omega (arith, stack_length ns ps s h.0, ap length h.2, left_same xs all at a)
same_weight ns ps xs all (Finished at i) (Done t ts) a h = refl
same_weight ns ps xs all Failed Stuck a h = refl
same_weight ns ps xs all m st a h = absurd h

heavy : (xs : List Lexeme) (m : Move) (ps : List Pending) → is_over m ≡ false → 0 < code_weight xs m ps
heavy xs (Wanted at) ps e = omega arith
heavy xs (Held at i) ps e = omega arith
heavy xs (Finished at i) ps e = cc
heavy xs Failed ps e = cc

pub going_falls : (ns0 ns ns' : List Node) (ps ps' : List Pending) (xs : List Lexeme) (all : List Token) (now m : Move) (start : State) → AreLexemes xs all → Going ns0 ns ps all now start
    → ((st : State) → Shows ns ps all now st → Turned ns ns' ps' all m (step st)) → is_over now ≡ false → code_weight xs m ps' < code_weight xs now ps
going_falls ns0 ns ns' ps ps' xs all now m start a g f over =
    omega (arith, same_weight ns ps xs all now g.st a g.shows, same_weight ns' ps' xs all m (step g.st) a (f g.st g.shows).shows, falls g.st (subst (λ n. 0 < n) (same_weight ns ps xs all now g.st a g.shows) (heavy xs now ps over)))

pub going_done : (ns0 ns : List Node) (ps : List Pending) (all : List Token) (from at i : ℕ) → Going ns0 ns ps all (Finished at i) (Want [] (drop from all)) → ReadsOne ns0 ns ps all from at i
going_done ns0 ns ps all from at i g = of g.st g.shows g.reaches
  where
    of : (st : State) → Shows ns ps all (Finished at i) st → Reaches (Want [] (drop from all)) st → ReadsOne ns0 ns ps all from at i
    of (Want s rest) h r = absurd h
    of (Have s t rest) h r = absurd h
    of (Done t rest) h r = record { tree = t; grows = g.grows; free = h.0; is_at = h.1; reaches = subst (λ v. Reaches (Want [] (drop from all)) (Done t v)) h.2 r }
    of Stuck h r = absurd h

pub going_failed : (ns0 ns : List Node) (ps : List Pending) (all : List Token) (m : Move) (start : State) → is_over m ≡ true → ((at i : ℕ) → m ≡ Finished at i → ⊥) → Going ns0 ns ps all m start → Reaches start Stuck
going_failed ns0 ns ps all m start over never g = of m g.st over never g.shows g.reaches
  where
    of : (m : Move) (st : State) → is_over m ≡ true → ((at i : ℕ) → m ≡ Finished at i → ⊥) → Shows ns ps all m st → Reaches start st → Reaches start Stuck
    of Failed Stuck o n h r = r
    of (Finished at i) st o n h r = absurd (n at i refl)
    of (Wanted at) st o n h r = cc
    of (Held at i) st o n h r = cc
    of Failed st o n h r = absurd h

-- the source's expressions: those so far stand among the nodes
pub record Parsed (ns : List Node) (roots : List ℕ) (all : List Token) (at : ℕ) : Type 0 where
  pub done : List Tree
  pub parsing : Parsing all (drop at all) done
  pub are : AreAt ns roots done

pub parsed_start : (ns : List Node) (roots : List ℕ) (xs : List Lexeme) (all : List Token) (at : ℕ) → AreLexemes xs all → at ≡ first_at xs → roots ≡ [] → Parsed ns roots all at
parsed_start ns roots xs all at a e r = record {
  done = [];
  parsing = subst (λ v. Parsing all (drop v all) []) (sym e) (of xs all a);
  are = rw r tt;
}
  where
    of : (xs : List Lexeme) (all : List Token) → AreLexemes xs all → Parsing all (drop (first_at xs) all) []
    of [] [] a = parsing_plain [] (λ ts e. cc)
    of [] (t ∷ ts) a = absurd a
    of (x ∷ xs) [] a = absurd a
    of (x ∷ xs) (t ∷ ts) a = one a.0
      where
        no_separator : (m : Mark) (us : List Token) → mark_token m ∷ ts ≡ Separator ∷ us → ⊥
        no_separator (M.Sign o) us e = cc
        no_separator M.Equals us e = cc
        no_separator M.Opening us e = cc
        no_separator M.Closing us e = cc

        one : {x : Lexeme} {t : Token} → IsLexeme x t → Parsing (t ∷ ts) (drop (first_at (x ∷ xs)) (t ∷ ts)) []
        one {t = t} (is_integer lt) = parsing_plain (t ∷ ts) (λ us e. cc)
        one {t = t} is_name = parsing_plain (t ∷ ts) (λ us e. cc)
        one (is_mark {m}) = parsing_plain (mark_token m ∷ ts) (λ us e. no_separator m us e)
        one is_separator = parsing_begun (Separator ∷ ts) ts refl

some_left : (xs : List Lexeme) (all : List Token) (at : ℕ) → AreLexemes xs all → at < length xs → drop at all ≢ []
some_left xs all at a lt e = omega (arith, length-drop at all, ap length e, same_length xs all a)

pub parsed_none : (ns : List Node) (roots : List ℕ) (xs : List Lexeme) (all : List Token) (at : ℕ) → AreLexemes xs all → Parsed ns roots all at → at < length xs → Reaches (Want [] (drop at all)) Stuck → (trees : List Tree) → Top all trees → ⊥
parsed_none ns roots xs all at a p lt r = parsing_stuck all (drop at all) p.done p.parsing (some_left xs all at a lt) r

pub parsed_off : (ns ns0 ns' : List Node) (ps' : List Pending) (roots : List ℕ) (xs : List Lexeme) (all : List Token) (at end i : ℕ) → AreLexemes xs all → Parsed ns roots all at → at < length xs → ReadsOne ns0 ns' ps' all at end i
    → IsAfter xs end None → (trees : List Tree) → Top all trees → ⊥
parsed_off ns ns0 ns' ps' roots xs all at end i a p lt r f =
    parsing_off all (drop at all) (drop end all) p.done r.tree p.parsing (some_left xs all at a lt) r.reaches (some_left xs all end a f.1) other
  where
    other : (after : List Token) → drop end all ≡ Separator ∷ after → ⊥
    other after e = let k = taken xs all end f.0 (drop (end + 1) xs) a f.2 in let is : k.0 ≡ Separator = cc in f.3 (shape f.0 k.0 k.1 is)
      where
        shape : (x : Lexeme) (t : Token) → IsLexeme x t → t ≡ Separator → x ≡ X.Separator
        shape x t (is_integer lt) e = cc
        shape x t is_name e = cc
        shape x t (is_mark {m}) e = sign m e
          where
            sign : (m : Mark) → mark_token m ≡ Separator → X.Mark m ≡ X.Separator
            sign (M.Sign o) e = cc
            sign M.Equals e = cc
            sign M.Opening e = cc
            sign M.Closing e = cc
        shape x t is_separator e = refl

pub parsed_turn : (ns ns' : List Node) (ps' : List Pending) (roots roots' : List ℕ) (xs : List Lexeme) (all : List Token) (at end i next : ℕ) → AreLexemes xs all → Parsed ns roots all at → at < length xs → ReadsOne ns ns' ps' all at end i
    → IsAfter xs end (Some next) → roots' ≡ roots ++ i ∷ [] → Parsed ns' roots' all next
parsed_turn ns ns' ps' roots roots' xs all at end i next a p lt r f e = record {
  done = p.done ++ r.tree ∷ [];
  parsing = of f;
  are = rw e (are_and ns' roots p.done i r.tree (subst (λ v. AreAt v roots p.done) (sym r.grows.1) (are_more ns r.grows.0 roots p.done p.are)) r.is_at);
}
  where
    of : IsAfter xs end (Some next) → Parsing all (drop next all) (p.done ++ r.tree ∷ [])
    of (inl h) =
        let nil : drop end all ≡ [] = none_left xs all end a h.0 in
        let out : drop next all ≡ [] = none_left xs all next a (omega (arith, h.1)) in
        subst (λ v. Parsing all v (p.done ++ r.tree ∷ [])) (sym out) (parsing_last all (drop at all) p.done r.tree p.parsing (some_left xs all at a lt) (subst (λ v. Reaches (Want [] (drop at all)) (Done r.tree v)) nil r.reaches))
    of (inr h) =
        let k = taken xs all end X.Separator (drop (end + 1) xs) a h.1 in
        let on : drop end all ≡ Separator ∷ drop (end + 1) all = separates k.0 k.1 refl k.2 in
        subst (λ v. Parsing all (drop v all) (p.done ++ r.tree ∷ [])) (sym h.2) (parsing_more all (drop at all) (drop (end + 1) all) p.done r.tree p.parsing (some_left xs all at a lt) (subst (λ v. Reaches (Want [] (drop at all)) (Done r.tree v)) on r.reaches))
      where
        separates : {x : Lexeme} (t : Token) → IsLexeme x t → x ≡ X.Separator → drop end all ≡ t ∷ drop (end + 1) all → drop end all ≡ Separator ∷ drop (end + 1) all
        separates t (is_integer lt) e h = cc
        separates t is_name e h = cc
        separates t is_mark e h = cc
        separates t is_separator e h = h

pub after_further : (ns ns' : List Node) (ps' : List Pending) (xs : List Lexeme) (all : List Token) (at end i next : ℕ) → AreLexemes xs all → at < length xs → ReadsOne ns ns' ps' all at end i → IsAfter xs end (Some next) → at < next
after_further ns ns' ps' xs all at end i next a lt r f = of f
  where
    of : IsAfter xs end (Some next) → at < next
    of (inl h) = omega (arith, h.1)
    of (inr h) = omega (arith, h.2, front_shorter (drop at all) r.tree (drop end all) r.reaches, length-drop at all, length-drop end all)

pub parsed_end : (ns : List Node) (roots : List ℕ) (xs : List Lexeme) (all : List Token) (at : ℕ) → AreLexemes xs all → (p : Parsed ns roots all at) → length xs ≤ at → HasTrees all p.done
parsed_end ns roots xs all at a p le = parsing_end all p.done (subst (λ v. Parsing all v p.done) (none_left xs all at a le) p.parsing)
