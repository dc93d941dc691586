-- What a packer holds.
use Rattle.std.proofs.Common.{◌≡◌, ℕ, zero, suc, ◌+◌, List, [], ◌∷◌, ◌++◌, map, replicate, refl, sym, ap, ◌∙◌, arith, append_assoc, add-zero}
use Rattle.std.proofs.lemmas.List.{append-nil}
use Rattle.utf16_text.specs.Units.{decoded}
use Rattle.delta.specs.Pack.{first_puts, first_drops, inserting, deleting, from_keep, packed}
use Rattle.delta.specs.Packers.{kept_many, retaining, packs, IsFlushed, TakesSteps}
use Rattle.delta.specs.Spread.{Small, Keep, Drop, Put, small_reach}
use Rattle.delta.specs.Fronts.{head_small}
use Rattle.delta.specs.declared.front.Head.{Head}
use Rattle.delta.specs.declared.front.Head.TheVariants.{Kept, Gone}
use Rattle.delta.specs.declared.packer.Packer.{Packer}
use Rattle.delta.proofs.Packs.{packed-open, puts_past, drops_past_puts, keep_past_puts, puts_past_drops, drops_past, keep_past_drops, from_keep-keeps, many_none, many_many, some_stretch}

reach_keeps : (n : ℕ) → small_reach (replicate n Keep) ≡ n
reach_keeps zero = refl
reach_keeps (suc n) = ap suc (reach_keeps n)

reach_drops : (n : ℕ) → small_reach (replicate n Drop) ≡ n
reach_drops zero = refl
reach_drops (suc n) = ap suc (reach_drops n)

-- Keeps end the stretch
pub take_keeps : (old mid : Packer) (n : ℕ) → (n ≡ 0 → ⊥) → IsFlushed old mid → TakesSteps old (record mid { keeps = mid.keeps + n }) (replicate n Keep)
take_keeps old mid zero some f = absurd (some refl)
take_keeps old mid (suc n) some f = record {
  same = λ s.
      rw (f.puts, f.drops, many_many mid.keeps (suc n) (packed s))
      (ap (λ w. mid.made.items ++ kept_many mid.keeps w) (sym (from_keep-keeps n s))
      ∙ (f.same (from_keep (replicate (suc n) Keep ++ s))
      ∙ ap (λ w. old.made.items ++ kept_many old.keeps w)
      (ap (λ w. inserting (decoded w) ++ (deleting old.drops ++ from_keep (replicate (suc n) Keep ++ s))) (sym (append-nil old.puts.items))
      ∙ (ap (λ w. inserting (decoded (old.puts.items ++ [])) ++ (deleting w ++ from_keep (replicate (suc n) Keep ++ s))) (sym (add-zero old.drops))
      ∙ sym (packed-open old.puts.items old.drops (replicate (suc n) Keep ++ s))))));
  count = omega (arith, f.keeps, f.drops, reach_keeps (suc n));
}

pub take_drops : (old : Packer) (n : ℕ) → TakesSteps old (record old { drops = old.drops + n }) (replicate n Drop)
take_drops old n = record {
  same = λ s.
      ap (λ w. old.made.items ++ kept_many old.keeps w)
      (packed-open old.puts.items (old.drops + n) s
      ∙ (ap (λ w. inserting (decoded (old.puts.items ++ first_puts s)) ++ (deleting w ++ from_keep s)) (omega (arith, drops_past n s))
      ∙ (ap (λ w. inserting (decoded (old.puts.items ++ w)) ++ (deleting (old.drops + first_drops (replicate n Drop ++ s)) ++ from_keep s)) (sym (puts_past_drops n s))
      ∙ (ap (λ w. inserting (decoded (old.puts.items ++ first_puts (replicate n Drop ++ s))) ++ (deleting (old.drops + first_drops (replicate n Drop ++ s)) ++ w)) (sym (keep_past_drops n s))
      ∙ sym (packed-open old.puts.items old.drops (replicate n Drop ++ s))))));
  count = omega (arith, reach_drops n);
}

reach_puts : (us : List ℕ) → small_reach (map Put us) ≡ 0
reach_puts [] = refl
reach_puts (u ∷ us) = reach_puts us

puts_later : (p us : List ℕ) (d : ℕ) (s : List Small) → packed (map Put (p ++ us) ++ (replicate d Drop ++ s)) ≡ packed (map Put p ++ (replicate d Drop ++ (map Put us ++ s)))
puts_later p us d s =
    packed-open (p ++ us) d s
    ∙ (ap (λ w. inserting (decoded w) ++ (deleting (d + first_drops s) ++ from_keep s)) (append_assoc p us (first_puts s) ∙ ap (λ w. p ++ w) (sym (puts_past us s)))
    ∙ (ap (λ w. inserting (decoded (p ++ first_puts (map Put us ++ s))) ++ (deleting (d + w) ++ from_keep s)) (sym (drops_past_puts us s))
    ∙ (ap (λ w. inserting (decoded (p ++ first_puts (map Put us ++ s))) ++ (deleting (d + first_drops (map Put us ++ s)) ++ w)) (sym (keep_past_puts us s)) ∙ sym (packed-open p d (map Put us ++ s)))))

pub take_puts : (old new : Packer) (us : List ℕ) → new.puts.items ≡ old.puts.items ++ us → new.made.items ≡ old.made.items → new.keeps ≡ old.keeps → new.drops ≡ old.drops → TakesSteps old new (map Put us)
take_puts old new us p m k d = record {
  same = λ s. rw (p, m, k, d) (ap (λ w. old.made.items ++ kept_many old.keeps w) (puts_later old.puts.items us old.drops s));
  count = omega (arith, reach_puts us);
}

-- the open stretch is ended
pub flushed_empty : (old new : Packer) (text : List ℕ) → text ≡ decoded old.puts.items → text ≡ [] → old.drops ≡ 0 → new.puts.items ≡ [] → new.made.items ≡ old.made.items → new.keeps ≡ old.keeps → new.drops ≡ old.drops → IsFlushed old new
flushed_empty old new text is e z p m k d = record {
  puts = p;
  drops = d ∙ z;
  keeps = omega arith;
  same = λ w. rw (m, k, ← is, e, z) refl;
}

pub flushed_some : (old new : Packer) (text : List ℕ) → text ≡ decoded old.puts.items → (text ≡ [] → old.drops ≡ 0 → ⊥) → new.puts.items ≡ [] → new.keeps ≡ 0 → new.drops ≡ 0
    → new.made.items ≡ ((old.made.items ++ retaining old.keeps) ++ inserting text) ++ deleting old.drops → IsFlushed old new
flushed_some old new text is some p k d m = record {
  puts = p;
  drops = d;
  keeps = omega arith;
  same = λ w.
      rw (m, k, ← is, some_stretch old.keeps text old.drops w some)
      (append_assoc ((old.made.items ++ retaining old.keeps) ++ inserting text) (deleting old.drops) w
      ∙ (append_assoc (old.made.items ++ retaining old.keeps) (inserting text) (deleting old.drops ++ w) ∙ append_assoc old.made.items (retaining old.keeps) (inserting text ++ (deleting old.drops ++ w))));
}

-- nothing more comes
pub finished : (old new : Packer) → IsFlushed old new → new.made.items ≡ packs old []
finished old new f =
    sym (append-nil new.made.items) ∙ (ap (λ w. new.made.items ++ w) (sym (many_none new.keeps)) ∙ (f.same []
    ∙ ap (λ w. old.made.items ++ kept_many old.keeps w)
    (ap (λ w. inserting (decoded w) ++ (deleting old.drops ++ [])) (sym (append-nil old.puts.items))
    ∙ (ap (λ w. inserting (decoded (old.puts.items ++ [])) ++ (deleting w ++ [])) (sym (add-zero old.drops)) ∙ sym (packed-open old.puts.items old.drops [])))))

-- how far a head reaches
pub head_reach_kept : (h : Head) (n : ℕ) → h ≡ Kept n → small_reach (head_small h) ≡ n
head_reach_kept h n e = ap (λ w. small_reach (head_small w)) e ∙ reach_keeps n

pub head_reach_gone : (h : Head) (n : ℕ) → h ≡ Gone n → small_reach (head_small h) ≡ n
head_reach_gone h n e = ap (λ w. small_reach (head_small w)) e ∙ reach_drops n

pub small_reach-append : (s t : List Small) → small_reach (s ++ t) ≡ small_reach s + small_reach t
small_reach-append [] t = omega arith
small_reach-append (Keep ∷ s) t = omega (arith, small_reach-append s t)
small_reach-append (Drop ∷ s) t = omega (arith, small_reach-append s t)
small_reach-append (Put u ∷ s) t = small_reach-append s t

pub head_reach : (h : Head) (s : List Small) → small_reach (head_small h ++ s) ≡ small_reach (head_small h) + small_reach s
head_reach h s = small_reach-append (head_small h) s
