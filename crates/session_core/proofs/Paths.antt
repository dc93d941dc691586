-- Bindings after paths.
use Rattle.std.proofs.Common.{◌≡◌, ℕ, List, [], ◌∷◌, ◌++◌, refl, sym, ap, subst, ◌∙◌}
use Rattle.std.proofs.lemmas.List.{append-nil}
use Rattle.ex_value.specs.declared.Value.{Value}
use Rattle.ex_model.specs.declared.bindings.Binding.{Binding}
use Rattle.ex_model.specs.declared.ran.Ran.{Ran}
use Rattle.ex_model.specs.declared.ran.Shown.{Shown}
use Rattle.ex_model.specs.declared.ran.Outcome.TheVariants as Outcomes
use Rattle.ex_model.specs.Bound.{put_all}
use Rattle.ex_model.specs.Along.{MeansInCell, After, at_start, and_after, IsShown, is_last}
use Rattle.ex_model.proofs.Once.{one_meaning, one_after}
use Rattle.ex_source.proofs.Readings.{one_reading}

-- lists that end by one element
pub snoc-cut : {X : Type 0} (xs ys : List X) (x y : X) → xs ++ x ∷ [] ≡ ys ++ y ∷ [] → (xs ≡ ys) × (x ≡ y)
snoc-cut [] [] x y e = (refl, cc e)
snoc-cut [] (z ∷ []) x y e = absurd (cc e)
snoc-cut [] (z ∷ (v ∷ ys)) x y e = absurd (cc e)
snoc-cut (z ∷ []) [] x y e = absurd (cc e)
snoc-cut (z ∷ (v ∷ xs)) [] x y e = absurd (cc e)
snoc-cut (z ∷ xs) (v ∷ ys) x y e =
    let rest : xs ++ x ∷ [] ≡ ys ++ y ∷ [] = cc e in
    let t : (xs ≡ ys) × (x ≡ y) = snoc-cut xs ys x y rest in
    let first : z ≡ v = cc e in
    (ap (λ w. w ∷ xs) first ∙ ap (λ ws. v ∷ ws) t.0, t.1)

not-snoc : {X : Type 0} (xs : List X) (x : X) → [] ≡ xs ++ x ∷ [] → ⊥
not-snoc [] x e = cc e
not-snoc (y ∷ xs) x e = cc e

-- the last cell of a path that has bindings after it
pub record LastRan (sources : List (List ℕ)) (source : List ℕ) (bs : List Binding) : Type 0 where
  pub base : List Binding
  pub ran : Ran
  pub value : Value
  pub before : After sources base
  pub means : MeansInCell source base ran
  pub gives : ran.shown.outcome ≡ Outcomes.Value value
  pub bindings : bs ≡ put_all base ran.made

last-by : (all : List (List ℕ)) (bs : List Binding) (sources : List (List ℕ)) (source : List ℕ) → all ≡ sources ++ source ∷ [] → After all bs → LastRan sources source bs
last-by all bs sources source e at_start = absurd (not-snoc sources source e)
last-by all bs sources source e (and_after {sources = old} {base = base} {source = x} {ran = ran} {value = v} before means gives) =
    let t : (old ≡ sources) × (x ≡ source) = snoc-cut old sources x source e in
    record {
      base = base;
      ran = ran;
      value = v;
      before = subst (λ s. After s base) t.0 before;
      means = subst (λ s. MeansInCell s base ran) t.1 means;
      gives = gives;
      bindings = refl;
    }

pub last-ran : (sources : List (List ℕ)) (source : List ℕ) (bs : List Binding) → After (sources ++ source ∷ []) bs → LastRan sources source bs
last-ran sources source bs a = last-by (sources ++ source ∷ []) bs sources source refl a

-- there is one list of bindings after a path
pub after-unique : (all : List (List ℕ)) (a b : List Binding) → After all a → After all b → a ≡ b
after-unique all a b first other = one_after one_reading first other refl

short : {X : Type 0} (xs : List X) (z : X) (ys : List X) → [] ≡ xs ++ z ∷ ys → ⊥
short [] z ys e = cc e
short (x ∷ xs) z ys e = cc e

-- a beginning of a path that has bindings after it has some too
end-split : {X : Type 0} (xs : List X) (z : X) (old : List X) (x : X) (ys : List X) → old ++ x ∷ [] ≡ xs ++ z ∷ ys → (zs : List X) × (old ≡ xs ++ zs)
end-split [] z old x ys e = (old, refl)
end-split (y ∷ xs) z [] x ys e = absurd (short xs z ys (cc e))
end-split (y ∷ xs) z (v ∷ old) x ys e =
    let rest : old ++ x ∷ [] ≡ xs ++ z ∷ ys = cc e in
    let first : v ≡ y = cc e in
    let t : (zs : List _) × (old ≡ xs ++ zs) = end-split xs z old x ys rest in
    (t.0, ap (λ w. w ∷ old) first ∙ ap (λ ws. y ∷ ws) t.1)

begin-by : (all : List (List ℕ)) (bs : List Binding) (xs ys : List (List ℕ)) → all ≡ xs ++ ys → After all bs → (a : List Binding) × After xs a
begin-by all bs xs [] e a = (bs, subst (λ s. After s bs) (e ∙ append-nil xs) a)
begin-by all bs [] (y ∷ ys) e a = ([], at_start)
begin-by all bs (x ∷ xs) (y ∷ ys) e at_start = absurd (cc e)
begin-by all bs (x ∷ xs) (y ∷ ys) e (and_after {sources = old} {base = base} {source = s} before means gives) =
    let t : (zs : List (List ℕ)) × (old ≡ (x ∷ xs) ++ zs) = end-split (x ∷ xs) y old s ys e in
    begin-by old base (x ∷ xs) t.0 t.1 before

pub after-begin : (xs ys : List (List ℕ)) (bs : List Binding) → After (xs ++ ys) bs → (a : List Binding) × After xs a
after-begin xs ys bs a = begin-by (xs ++ ys) bs xs ys refl a

-- one cell more
pub after-one : (sources : List (List ℕ)) (source : List ℕ) (base all : List Binding) (ran : Ran) → After sources base → After (sources ++ source ∷ []) all → MeansInCell source base ran → After (sources ++ source ∷ []) (put_all base ran.made)
after-one sources source base all ran a whole means =
    let t : LastRan sources source all = last-ran sources source all whole in
    let same : base ≡ t.base = after-unique sources base t.base a t.before in
    let one : ran ≡ t.ran = one_meaning one_reading means (subst (λ bs. MeansInCell source bs t.ran) (sym same) t.means) in
    and_after a means (ap (λ (r : Ran). r.shown.outcome) one ∙ t.gives)

-- what is shown without a fault leaves bindings after the path
pub shown-after : (all : List (List ℕ)) (shown : Shown) (v : Value) → IsShown all shown → shown.outcome ≡ Outcomes.Value v → (bs : List Binding) × After all bs
shown-after all shown v (is_last {base = base} {ran = ran} before means) e = (put_all base ran.made, and_after before means e)
