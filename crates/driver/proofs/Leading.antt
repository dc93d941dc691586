-- Acts one after the other.
use Rattle.std.proofs.Common.{◌≡◌, ℕ, List, [], ◌++◌, Option, Some, refl, sym, ap, subst, ◌∙◌, append_assoc}
use Rattle.std.proofs.lemmas.List.{append-nil}
use Rattle.driver.specs.Turns.{Turn}
use Rattle.driver.specs.Player.{Game, Stage, or_none}
use Rattle.script.specs.declared.line.ScriptLine.{ScriptLine}
use Rattle.driver.specs.Standing.{Stands, Leads, HasDone, HasPlayed, turns_of}
use Rattle.driver.specs.declared.player.Player.{Player}

-- before anything is done
pub lead-none : (g : Game) (act : Stage → Option Stage) (p : Player) (s : Stage) (x : List ℕ) → Stands g p s → Leads g act act p p s x x
lead-none g act p s x st = record { stage = s; more = []; grown = sym (append-nil (turns_of p)); acts = λ rest. refl; stands = st; piece = []; printed = sym (append-nil x); said = sym (append-nil s.said) }

-- one step more
pub lead-on : (g : Game) (act mid step next : Stage → Option Stage) (a b c : Player) (s : Stage) (x y z : List ℕ) → (l : Leads g act mid a b s x y) → HasDone g step b c l.stage y z → ((t : Stage) → mid t ≡ or_none (step t) next) → Leads g act next a c s x z
lead-on g act mid step next a b c s x y z l d split =
    record {
      stage = d.stage;
      more = l.more ++ d.more;
      grown = d.grown ∙ (ap (λ ts. ts ++ d.more) l.grown ∙ append_assoc (turns_of a) l.more d.more);
      acts = λ rest. ap (λ ts. act (record s { turns = ts })) (append_assoc l.more d.more rest)
          ∙ (l.acts (d.more ++ rest) ∙ (split (record l.stage { turns = d.more ++ rest }) ∙ ap (λ o. or_none o next) (d.acts rest)));
      stands = d.stands;
      piece = l.piece ++ d.piece;
      printed = d.printed ∙ (ap (λ w. w ++ d.piece) l.printed ∙ append_assoc x l.piece d.piece);
      said = d.said ∙ (ap (λ w. w ++ d.piece) l.said ∙ append_assoc s.said l.piece d.piece);
    }

-- a step behind what was done
pub lead-then : (g : Game) (act step both : Stage → Option Stage) (a b c : Player) (s : Stage) (x y z : List ℕ) → (l : HasDone g act a b s x y) → HasDone g step b c l.stage y z → ((t : Stage) → both t ≡ or_none (act t) step) → HasDone g both a c s x z
lead-then g act step both a b c s x y z l d split =
    record {
      stage = d.stage;
      more = l.more ++ d.more;
      grown = d.grown ∙ (ap (λ ts. ts ++ d.more) l.grown ∙ append_assoc (turns_of a) l.more d.more);
      acts = λ rest. split (record s { turns = (l.more ++ d.more) ++ rest })
          ∙ (ap (λ ts. or_none (act (record s { turns = ts })) step) (append_assoc l.more d.more rest) ∙ (ap (λ o. or_none o step) (l.acts (d.more ++ rest)) ∙ d.acts rest));
      stands = d.stands;
      piece = l.piece ++ d.piece;
      printed = d.printed ∙ (ap (λ w. w ++ d.piece) l.printed ∙ append_assoc x l.piece d.piece);
      said = d.said ∙ (ap (λ w. w ++ d.piece) l.said ∙ append_assoc s.said l.piece d.piece);
    }

-- the same under another name
pub lead-as : (g : Game) (act other next : Stage → Option Stage) (a b : Player) (s : Stage) (x y : List ℕ) → Leads g act next a b s x y → ((ts : List Turn) → other (record s { turns = ts }) ≡ act (record s { turns = ts })) → Leads g other next a b s x y
lead-as g act other next a b s x y l same =
    record { stage = l.stage; more = l.more; grown = l.grown; acts = λ rest. same (l.more ++ rest) ∙ l.acts rest; stands = l.stands; piece = l.piece; printed = l.printed; said = l.said }

-- nothing is left to do
pub lead-end : (g : Game) (act next : Stage → Option Stage) (a b : Player) (s : Stage) (x y : List ℕ) → Leads g act next a b s x y → ((t : Stage) → next t ≡ Some t) → HasDone g act a b s x y
lead-end g act next a b s x y l done =
    record { stage = l.stage; more = l.more; grown = l.grown; acts = λ rest. l.acts rest ∙ done (record l.stage { turns = rest }); stands = l.stands; piece = l.piece; printed = l.printed; said = l.said }

-- the same after other bytes
pub lead-behind : (g : Game) (act next : Stage → Option Stage) (a b : Player) (s : Stage) (w y : List ℕ) → Leads g act next a b s [] y → Leads g act next a b s w (w ++ y)
lead-behind g act next a b s w y l =
    record { stage = l.stage; more = l.more; grown = l.grown; acts = l.acts; stands = l.stands; piece = l.piece; printed = ap (λ z. w ++ z) l.printed; said = l.said }

-- a line under its own name, from no bytes on
pub line-played : (g : Game) (l k : ScriptLine) (p q r : Player) (s : Stage) (x y z : List ℕ) → k ≡ l → x ≡ [] → r ≡ q → z ≡ y → HasPlayed g l p q s x y → HasPlayed g k p r s [] z
line-played g l k p q r s x y z ek ex er ez is =
    subst (λ m. HasPlayed g m p r s [] z) (sym ek) (subst (λ m. HasPlayed g l p m s [] z) (sym er) (subst (λ m. HasPlayed g l p q s [] m) (sym ez) (subst (λ m. HasPlayed g l p q s m y) ex is)))
