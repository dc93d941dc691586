-- The expressions of a source, one after the other.
use Rattle.std.proofs.Common.{◌≡◌, ◌≢◌, ◌⊎◌, inl, inr, List, [], ◌∷◌, ◌++◌, refl, sym, ap, ◌∙◌, subst, append_assoc}
use Rattle.std.proofs.lemmas.List.{append-nil}
use Rattle.ex_grammar.specs.Tokens.{Token, Separator}
use Rattle.ex_grammar.specs.Trees.{Tree, Trees, NoTree, OneMore, joined}
use Rattle.ex_grammar.specs.Grammar as D
use Rattle.ex_grammar.specs.Grammar.{End, Derives, DeriveAll, DeriveSource, MaySeparate, without, with}
use Rattle.ex_parser.specs.Follow.{after_separator}
use Rattle.ex_parser.specs.Parsed.{HasTrees}
use Rattle.ex_parser.specs.Machine.{Want, Done, Stuck, Reaches}
use Rattle.ex_parser.proofs.Fronts.{Begins, begins_more, all_begin}
use Rattle.ex_parser.proofs.Reach.{joined_none, skips}
use Rattle.ex_parser.proofs.Inverses.{separated}
use Rattle.ex_parser.proofs.SoundBlocks.{front_of}
use Rattle.ex_parser.proofs.Laws.{one_end, comes_to, EndsBefore}

-- what is left of a source derives these expressions: none, or some with a separator last or without
pub data RestAre : List Token → Trees → Type 0 where
  nothing : RestAre [] NoTree
  some : {ts sep : List Token} {xs : Trees} → DeriveAll ts xs → MaySeparate sep → RestAre (ts ++ sep) xs

-- what is left after an expression
abbrev pub Ends : List Token → Trees → Type 0
Ends rest us = ((rest ≡ []) × (us ≡ NoTree)) ⊎ ((after : List Token) × (rest ≡ Separator ∷ after) × RestAre after us)

pub record Follows (rest : List Token) (t : Tree) (us : Trees) : Type 0 where
  pub trees : Trees
  pub are : us ≡ OneMore t trees
  pub ends : Ends rest trees

sep_ends : {sep : List Token} → MaySeparate sep → EndsBefore sep
sep_ends without = tt
sep_ends with = tt

sep_left : {sep : List Token} → MaySeparate sep → Ends sep NoTree
sep_left without = inl (refl, refl)
sep_left with = inr ([], refl, nothing)

-- the first expression is the one that the machine reads
all_first : {ts sep : List Token} {xs : Trees} → DeriveAll ts xs → MaySeparate sep → (t : Tree) (rest : List Token) → Reaches (Want [] (ts ++ sep)) (Done t rest) → Follows rest t xs
all_first {sep = sep} (D.last_one {ts = ts} {t = u} d) m t rest r =
    let e = one_end r tt (comes_to ts sep u d (sep_ends m)) tt in
    let tree : u ≡ t = cc in
    let same : rest ≡ sep = cc in
    record { trees = NoTree; are = ap (λ v. OneMore v NoTree) tree; ends = subst (λ v. Ends v NoTree) (sym same) (sep_left m) }
all_first {sep = sep} (D.one_more {ts = ts} {us} {t = u} {u = w} {xs} d ds) m t rest r =
    let e = one_end r tt (subst (λ v. Reaches (Want [] v) (Done u (Separator ∷ (us ++ sep)))) (sym (append_assoc ts (Separator ∷ us) sep)) (comes_to ts (Separator ∷ (us ++ sep)) u d tt)) tt in
    let tree : u ≡ t = cc in
    let same : rest ≡ Separator ∷ (us ++ sep) = cc in
    record { trees = OneMore w xs; are = ap (λ v. OneMore v (OneMore w xs)) tree; ends = inr (us ++ sep, same, some ds m) }

pub rest_first : {rest end : List Token} {t : Tree} {us : Trees} → RestAre rest us → rest ≢ [] → Reaches (Want [] rest) (Done t end) → Follows end t us
rest_first nothing n r = absurd (n refl)
rest_first {end = end} {t = t} (some d m) n r = all_first d m t end r

-- where the machine sticks, nothing derives
all_stuck : {ts sep : List Token} {xs : Trees} → DeriveAll ts xs → MaySeparate sep → Reaches (Want [] (ts ++ sep)) Stuck → ⊥
all_stuck {sep = sep} (D.last_one {ts = ts} {t = u} d) m r = let e = one_end r tt (comes_to ts sep u d (sep_ends m)) tt in cc
all_stuck {sep = sep} (D.one_more {ts = ts} {us} {t = u} d ds) m r =
    let e = one_end r tt (subst (λ v. Reaches (Want [] v) (Done u (Separator ∷ (us ++ sep)))) (sym (append_assoc ts (Separator ∷ us) sep)) (comes_to ts (Separator ∷ (us ++ sep)) u d tt)) tt in cc

pub rest_stuck : {rest : List Token} {us : Trees} → RestAre rest us → rest ≢ [] → Reaches (Want [] rest) Stuck → ⊥
rest_stuck nothing n r = n refl
rest_stuck (some d m) n r = all_stuck d m r

begins_not_nil : (ts us : List Token) → Begins ts → ts ++ us ≡ [] → ⊥
begins_not_nil [] us b e = b
begins_not_nil (t ∷ ts) us b e = cc

rest_nil : {rest : List Token} {us : Trees} → RestAre rest us → rest ≡ [] → us ≡ NoTree
rest_nil nothing e = refl
rest_nil (some {ts} {sep} d m) e = absurd (begins_not_nil ts sep (all_begin d) e)

-- one expression more before what is left
rest_more : {e : End} {ts after : List Token} {t : Tree} {us : Trees} → Derives 0 e ts t → RestAre after us → RestAre (ts ++ Separator ∷ after) (OneMore t us)
rest_more d nothing = some (D.last_one d) with
rest_more {ts = ts} {t = t} d (some {sep = sep} (D.last_one {ts = vs} {t = v} dv) m) = subst (λ w. RestAre w (OneMore t (OneMore v NoTree))) (append_assoc ts (Separator ∷ vs) sep) (some (D.one_more d (D.last_one dv)) m)
rest_more {ts = ts} {t = t} d (some {sep = sep} (D.one_more {ts = vs} {us = ws} {t = v} {u} {xs} dv dw) m) = subst (λ w. RestAre w (OneMore t (OneMore v (OneMore u xs)))) (append_assoc ts (Separator ∷ (vs ++ Separator ∷ ws)) sep) (some (D.one_more d (D.one_more dv dw)) m)

joined_assoc : (xs ys zs : Trees) → joined (joined xs ys) zs ≡ joined xs (joined ys zs)
joined_assoc NoTree ys zs = refl
joined_assoc (OneMore x xs) ys zs = ap (OneMore x) (joined_assoc xs ys zs)

-- the expressions so far, and those of the rest, are the source's
pub record Parsing (all rest : List Token) (done : Trees) : Type 0 where
  pub forth : (trees : Trees) → DeriveSource all trees → (us : Trees) × RestAre rest us × (trees ≡ joined done us)
  pub back : (us : Trees) → RestAre rest us → DeriveSource all (joined done us)

begun_forth : {all : List Token} {trees : Trees} → DeriveSource all trees → RestAre (after_separator all) trees
begun_forth (D.no_expression without) = nothing
begun_forth (D.no_expression with) = nothing
begun_forth (D.expressions {ts} {sep} {sep'} {xs} m d m') = subst (λ w. RestAre w xs) (sym (skips m (ts ++ sep') (begins_more ts sep' (all_begin d)))) (some d m')

begun_back : {sep rest : List Token} {us : Trees} → MaySeparate sep → RestAre rest us → DeriveSource (sep ++ rest) us
begun_back {sep} m nothing = subst (λ w. DeriveSource w NoTree) (sym (append-nil sep)) (D.no_expression m)
begun_back m (some d m') = D.expressions m d m'

pub parsing_begun : (all : List Token) → Parsing all (after_separator all) NoTree
parsing_begun all = record {
  forth = λ trees h. (trees, begun_forth h, refl);
  back = λ us b. let s = separated all in subst (λ w. DeriveSource w us) (sym s.2) (begun_back s.1 b);
}

-- one expression more, at the end or before a separator
pub parsing_last : (all rest : List Token) (done : Trees) (t : Tree) → Parsing all rest done → rest ≢ [] → Reaches (Want [] rest) (Done t []) → Parsing all [] (joined done (OneMore t NoTree))
parsing_last all rest done t p n r = record {
  forth = λ trees h. let q = p.forth trees h in let f = rest_first q.1 n r in (NoTree, nothing, q.2 ∙ (ap (joined done) (f.are ∙ ap (OneMore t) (none f.trees f.ends)) ∙ sym (joined_none (joined done (OneMore t NoTree)))));
  back = λ us b. subst (λ v. DeriveSource all v) (ap (λ w. joined done (OneMore t w)) (sym (rest_nil b refl)) ∙ sym (joined_assoc done (OneMore t NoTree) us)) (p.back (OneMore t NoTree) whole);
}
  where
    off : (after : List Token) → [] ≡ Separator ∷ after → ⊥
    off after e = cc

    none : (us : Trees) → Ends [] us → us ≡ NoTree
    none us (inl e) = e.1
    none us (inr e) = absurd (off e.0 e.1)

    whole : RestAre rest (OneMore t NoTree)
    whole = let f = front_of rest t [] r in subst (λ w. RestAre w (OneMore t NoTree)) (sym f.split) (some (D.last_one f.derives) without)

pub parsing_more : (all rest after : List Token) (done : Trees) (t : Tree) → Parsing all rest done → rest ≢ [] → Reaches (Want [] rest) (Done t (Separator ∷ after)) → Parsing all after (joined done (OneMore t NoTree))
parsing_more all rest after done t p n r = record {
  forth = λ trees h. let q = p.forth trees h in let f = rest_first q.1 n r in of trees f.trees f.ends (q.2 ∙ ap (joined done) f.are);
  back = λ us b. let f = front_of rest t (Separator ∷ after) r in subst (λ v. DeriveSource all v) (sym (joined_assoc done (OneMore t NoTree) us)) (p.back (OneMore t us) (subst (λ w. RestAre w (OneMore t us)) (sym f.split) (rest_more f.derives b)));
}
  where
    off : Separator ∷ after ≡ [] → ⊥
    off e = cc

    same : (b : List Token) → Separator ∷ after ≡ Separator ∷ b → b ≡ after
    same b e = cc

    of : (trees us : Trees) → Ends (Separator ∷ after) us → trees ≡ joined done (OneMore t us) → (vs : Trees) × RestAre after vs × (trees ≡ joined (joined done (OneMore t NoTree)) vs)
    of trees us (inl e) g = absurd (off e.0)
    of trees us (inr e) g = (us, subst (λ w. RestAre w us) (same e.0 e.1) e.2, g ∙ sym (joined_assoc done (OneMore t NoTree) us))

-- no expressions, where the machine sticks or stops before another token
pub parsing_stuck : (all rest : List Token) (done : Trees) → Parsing all rest done → rest ≢ [] → Reaches (Want [] rest) Stuck → (trees : Trees) → DeriveSource all trees → ⊥
parsing_stuck all rest done p n r trees h = rest_stuck (p.forth trees h).1 n r

pub parsing_off : (all rest off : List Token) (done : Trees) (t : Tree) → Parsing all rest done → rest ≢ [] → Reaches (Want [] rest) (Done t off) → off ≢ [] → ((after : List Token) → off ≡ Separator ∷ after → ⊥) → (trees : Trees) → DeriveSource all trees → ⊥
parsing_off all rest off done t p n r some' never trees h = of (rest_first (p.forth trees h).1 n r).ends
  where
    of : {us : Trees} → Ends off us → ⊥
    of (inl e) = some' e.0
    of (inr e) = never e.0 e.1

-- at the end of the tokens
pub parsing_end : (all : List Token) (done : Trees) → Parsing all [] done → HasTrees all done
parsing_end all done p = record {
  derives = subst (λ v. DeriveSource all v) (joined_none done) (p.back NoTree nothing);
  only = λ us h. let f = p.forth us h in f.2 ∙ (ap (joined done) (rest_nil f.1 refl) ∙ joined_none done);
}
