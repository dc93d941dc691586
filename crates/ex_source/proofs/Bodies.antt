-- The expressions of a source, one after the other.
use Rattle.std.proofs.Common.{◌≡◌, ◌≢◌, ◌⊎◌, inl, inr, List, [], ◌∷◌, ◌++◌, refl, sym, ap, ◌∙◌, subst, append_assoc, arith, length}
use Rattle.std.proofs.lemmas.List.{append-nil}
use Rattle.ex_model.specs.Tokens.{Token, Separator}
use Rattle.ex_model.specs.Tree.{Tree}
use Rattle.ex_model.specs.Grammar.{Derives, Body, empty, last, more, Top, plain, begun}
use Rattle.ex_source.specs.Machine.{Want, Done, Stuck, Reaches, here, there}
use Rattle.ex_source.specs.Shown.{HasTrees}
use Rattle.ex_source.proofs.Sound.{Front}
use Rattle.ex_source.proofs.Laws.{one_end, comes_to, front_of, derives_some}

-- what is left after an expression: nothing, or a separator and a body
abbrev pub Ends : List Token → List Tree → Type 0
Ends rest trees = ((rest ≡ []) × (trees ≡ [])) ⊎ ((after : List Token) × (rest ≡ Separator ∷ after) × Body after trees)

-- how a body goes on after its first expression
pub record Follows (rest : List Token) (t : Tree) (us : List Tree) : Type 0 where
  pub trees : List Tree
  pub are : us ≡ t ∷ trees
  pub ends : Ends rest trees

-- the first expression of a body is the one that the machine reads
body_first : {all rest : List Token} {t : Tree} {us : List Tree} → Body all us → all ≢ [] → Reaches (Want [] all) (Done t rest) → Follows rest t us
body_first empty some r = absurd (some refl)
body_first {rest = rest} {t = t} (last {ts} {t = u} d) some r =
    let k = subst (λ v. Reaches (Want [] v) (Done u [])) (append-nil ts) (comes_to ts [] u d tt) in
    let e = one_end r tt k tt in
    let tree : u ≡ t = cc in
    let nil : rest ≡ [] = cc in
    record { trees = []; are = ap (λ v. v ∷ []) tree; ends = inl (nil, refl) }
body_first {rest = rest} {t = t} (more {ts} {us} {t = u} {trees} d b) some r =
    let k = comes_to ts (Separator ∷ us) u d tt in
    let e = one_end r tt k tt in
    let tree : u ≡ t = cc in
    let on : rest ≡ Separator ∷ us = cc in
    record { trees = trees; are = ap (λ v. v ∷ trees) tree; ends = inr (us, on, b) }

-- where the machine sticks, no body begins
body_stuck : {all : List Token} {us : List Tree} → Body all us → all ≢ [] → Reaches (Want [] all) Stuck → ⊥
body_stuck empty some r = some refl
body_stuck (last {ts} {t = u} d) some r =
    let k = subst (λ v. Reaches (Want [] v) (Done u [])) (append-nil ts) (comes_to ts [] u d tt) in
    let e = one_end r tt k tt in
    cc
body_stuck (more {ts} {us} {t = u} d b) some r = let e = one_end r tt (comes_to ts (Separator ∷ us) u d tt) tt in cc

-- no tokens have no expression
nil_of : (ts us : List Token) → ts ++ Separator ∷ us ≡ [] → ⊥
nil_of [] us e = cc
nil_of (t ∷ ts) us e = cc

body_nil : (all : List Token) (us : List Tree) → Body all us → all ≡ [] → us ≡ []
body_nil all us empty e = refl
body_nil all us (last {ts} {t = u} d) e =
    let k = subst (λ v. Reaches (Want [] v) (Done u [])) (append-nil ts ∙ e) (comes_to ts [] u d tt) in
    let f = one_end (there {a = Want [] []} here) tt k tt in
    cc
body_nil all us (more {ts} {us = vs} d b) e = absurd (nil_of ts vs e)

-- the expressions so far, and those of the rest, are the source's
pub record Parsing (all rest : List Token) (done : List Tree) : Type 0 where
  pub forth : (trees : List Tree) → Top all trees → (us : List Tree) × Body rest us × (trees ≡ done ++ us)
  pub back : (us : List Tree) → Body rest us → Top all (done ++ us)

pub parsing_begun : (all ts : List Token) → all ≡ Separator ∷ ts → Parsing all ts []
parsing_begun all ts e = record {
  forth = λ trees h. of all trees h e;
  back = λ us b. subst (λ v. Top v us) (sym e) (begun b);
}
  where
    of : (all : List Token) (trees : List Tree) → Top all trees → all ≡ Separator ∷ ts → (us : List Tree) × Body ts us × (trees ≡ [] ++ us)
    of all trees (plain b) e = absurd (body_stuck b (λ f. cc) (subst (λ v. Reaches (Want [] v) Stuck) (sym e) (there here)))
    of all trees (begun {ts = us} b) e = let same : us ≡ ts = cc in (trees, subst (λ v. Body v trees) same b, refl)

pub parsing_plain : (all : List Token) → ((ts : List Token) → all ≡ Separator ∷ ts → ⊥) → Parsing all all []
parsing_plain all never = record {
  forth = λ trees h. of all trees h never;
  back = λ us b. plain b;
}
  where
    of : (all : List Token) (trees : List Tree) → Top all trees → ((ts : List Token) → all ≡ Separator ∷ ts → ⊥) → (us : List Tree) × Body all us × (trees ≡ [] ++ us)
    of all trees (plain b) never = (trees, b, refl)
    of all trees (begun {ts} b) never = absurd (never ts refl)

-- one expression more, at the end or before a separator
pub parsing_last : (all rest : List Token) (done : List Tree) (t : Tree) → Parsing all rest done → rest ≢ [] → Reaches (Want [] rest) (Done t []) → Parsing all [] (done ++ t ∷ [])
parsing_last all rest done t p some r = record {
  forth = λ trees h. forth trees (p.forth trees h);
  back = λ us b. subst (λ v. Top all v) (back us b) (p.back (t ∷ us) (whole us (body_nil [] us b refl)));
}
  where
    forth : (trees : List Tree) → (us : List Tree) × Body rest us × (trees ≡ done ++ us) → (us : List Tree) × Body [] us × (trees ≡ (done ++ t ∷ []) ++ us)
    forth trees h = let f = body_first h.1 some r in ([], empty, h.2 ∙ (ap (λ v. done ++ v) f.are ∙ of f.trees f.ends))
      where
        off : (after : List Token) → [] ≡ Separator ∷ after → ⊥
        off after e = cc

        of : (ts : List Tree) → Ends [] ts → done ++ t ∷ ts ≡ (done ++ t ∷ []) ++ []
        of ts (inl e) = rw (e.1) (sym (append-nil (done ++ t ∷ [])))
        of ts (inr e) = absurd (off e.0 e.1)

    front : Derives 0 rest t
    front = let f = front_of rest t [] r in subst (λ v. Derives 0 v t) (sym (f.split ∙ append-nil f.xs)) f.derives

    whole : (us : List Tree) → us ≡ [] → Body rest (t ∷ us)
    whole us e = rw e (last front)

    back : (us : List Tree) → Body [] us → done ++ t ∷ us ≡ (done ++ t ∷ []) ++ us
    back us b = sym (append_assoc done (t ∷ []) us)

pub parsing_more : (all rest after : List Token) (done : List Tree) (t : Tree) → Parsing all rest done → rest ≢ [] → Reaches (Want [] rest) (Done t (Separator ∷ after)) → Parsing all after (done ++ t ∷ [])
parsing_more all rest after done t p some r = record {
  forth = λ trees h. forth trees (p.forth trees h);
  back = λ us b. subst (λ v. Top all v) (sym (append_assoc done (t ∷ []) us)) (p.back (t ∷ us) (subst (λ v. Body v (t ∷ us)) (sym front.split) (more front.derives b)));
}
  where
    front : Front rest t (Separator ∷ after)
    front = front_of rest t (Separator ∷ after) r

    forth : (trees : List Tree) → (us : List Tree) × Body rest us × (trees ≡ done ++ us) → (us : List Tree) × Body after us × (trees ≡ (done ++ t ∷ []) ++ us)
    forth trees h = let f = body_first h.1 some r in of f.trees f.ends (h.2 ∙ ap (λ v. done ++ v) f.are)
      where
        off : Separator ∷ after ≡ [] → ⊥
        off e = cc

        same : (b : List Token) → Separator ∷ after ≡ Separator ∷ b → b ≡ after
        same b e = cc

        of : (ts : List Tree) → Ends (Separator ∷ after) ts → trees ≡ done ++ t ∷ ts → (us : List Tree) × Body after us × (trees ≡ (done ++ t ∷ []) ++ us)
        of ts (inl e) g = absurd (off e.0)
        of ts (inr e) g = (ts, subst (λ v. Body v ts) (same e.0 e.1) e.2, g ∙ sym (append_assoc done (t ∷ []) ts))

-- no expressions, where the machine sticks or stops before another token
pub parsing_stuck : (all rest : List Token) (done : List Tree) → Parsing all rest done → rest ≢ [] → Reaches (Want [] rest) Stuck → (trees : List Tree) → Top all trees → ⊥
parsing_stuck all rest done p some r trees h = body_stuck (p.forth trees h).1 some r

pub parsing_off : (all rest off : List Token) (done : List Tree) (t : Tree) → Parsing all rest done → rest ≢ [] → Reaches (Want [] rest) (Done t off) → off ≢ [] → ((after : List Token) → off ≡ Separator ∷ after → ⊥) → (trees : List Tree) → Top all trees → ⊥
parsing_off all rest off done t p some r some' never trees h = of (body_first (p.forth trees h).1 some r).ends
  where
    of : {ts : List Tree} → Ends off ts → ⊥
    of (inl e) = some' e.0
    of (inr e) = never e.0 e.1

pub parsing_end : (all : List Token) (done : List Tree) → Parsing all [] done → HasTrees all done
parsing_end all done p = record {
  top = subst (λ v. Top all v) (append-nil done) (p.back [] empty);
  only = λ us h. let f = p.forth us h in f.2 ∙ (ap (λ v. done ++ v) (body_nil [] f.0 f.1 refl) ∙ append-nil done);
}

-- a body has one list of trees
body_one : {all : List Token} {us vs : List Tree} → Body all us → Body all vs → us ≡ vs
body_one {vs = vs} empty c = sym (body_nil [] vs c refl)
body_one (last {ts} {t} d) c =
    let r = subst (λ v. Reaches (Want [] v) (Done t [])) (append-nil ts) (comes_to ts [] t d tt) in
    let f = body_first c (never ts t d) r in
    sym (f.are ∙ ap (λ v. t ∷ v) (of f.trees f.ends))
  where
    never : (ts : List Token) (t : Tree) → Derives 0 ts t → ts ≢ []
    never ts t d e = omega (arith, derives_some d, ap length e)

    off : (after : List Token) → [] ≡ Separator ∷ after → ⊥
    off after e = cc

    of : (trees : List Tree) → Ends [] trees → trees ≡ []
    of trees (inl e) = e.1
    of trees (inr e) = absurd (off e.0 e.1)
body_one (more {ts} {us} {t} {trees} d b) c =
    let f = body_first c (never ts us) (comes_to ts (Separator ∷ us) t d tt) in
    sym (f.are ∙ ap (λ v. t ∷ v) (of us f.trees (λ ws w. sym (body_one b w)) f.ends))
  where
    never : (ts us : List Token) → ts ++ Separator ∷ us ≢ []
    never [] us e = cc
    never (u ∷ ts) us e = cc

    of : (us : List Token) (vs : List Tree) → ((ws : List Tree) → Body us ws → ws ≡ trees) → Ends (Separator ∷ us) vs → vs ≡ trees
    of us vs one (inl e) = absurd (let k = e.0 in off us k)
      where
        off : (us : List Token) → Separator ∷ us ≡ [] → ⊥
        off us e = cc
    of us vs one (inr e) = one vs (subst (λ v. Body v vs) (same us e.0 e.1) e.2)
      where
        same : (us after : List Token) → Separator ∷ us ≡ Separator ∷ after → after ≡ us
        same us after e = cc

-- and so has a source
pub top_one : (all : List Token) (us vs : List Tree) → Top all us → Top all vs → us ≡ vs
top_one all us vs (plain b) (plain c) = body_one b c
top_one all us vs (begun b) h = of all b h refl
  where
    of : {ts : List Token} (all : List Token) → Body ts us → Top all vs → all ≡ Separator ∷ ts → us ≡ vs
    of all b (plain c) e = absurd (body_stuck c (λ f. cc) (subst (λ v. Reaches (Want [] v) Stuck) (sym e) (there here)))
    of {ts} all b (begun {ts = rs} c) e = let s : rs ≡ ts = cc in body_one b (subst (λ v. Body v vs) s c)
top_one all us vs (plain b) (begun {ts} c) = absurd (body_stuck b (λ f. cc) (there here))
