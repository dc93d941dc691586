-- A script, packed, is a delta that fits its old text and makes its new one.
use Rattle.std.proofs.Common.{◌≡◌, ℕ, zero, suc, ◌+◌, ◌<◌, ◌≤◌, true, None, List, [], ◌∷◌, ◌++◌, length, map, replicate, refl, sym, ap, ◌∙◌, arith, append_assoc}
use Rattle.std.proofs.lemmas.List.Sums.{sum_by-cons}
use Rattle.utf16_text.proofs.Counts.{units-append, unit_count-append, unit_count-cons, whole_at}
use Rattle.utf16_text.proofs.Decoding.{decoded-units-AreScalars}
use Rattle.utf16_text.proofs.Scalars.{AreScalars-cons, AreScalars-head}
use Rattle.utf16_text.specs.Units.{units, unit_count, units_of_character, is_scalar, decoded, AreScalars}
use Rattle.delta.proofs.Packs.{puts_past, drops_past_puts, keep_past_puts, puts_past_drops, drops_past, keep_past_drops, from_keep-keeps, many_none, many_retain, many_insert, many_delete}
use Rattle.delta.proofs.Run.{run, run-drops, run-puts, woven_is_run}
use Rattle.delta.specs.Moves.{FitsText, text_after}
use Rattle.delta.specs.Pack.{first_puts, first_drops, inserting, deleting, kept, from_keep, packed}
use Rattle.delta.specs.Packers.{kept_many}
use Rattle.delta.specs.Spread.{Drop, Put}
use Rattle.delta.specs.Steps.{passed, reach_of, all_small, cuts_from, first_broken}
use Rattle.delta.specs.declared.Step.{Step}
use Rattle.delta.specs.declared.Step.TheVariants.{Retain, Insert, Delete}
use Rattle.delta_laws.proofs.Scripts.{Op, Kept, Gone, New, old, new, wide, width, width_pos, AreGood, new-AreScalars}

-- each step passes whole characters of the text
pub record Passes (n : ℕ) (t : List ℕ) (Then : List ℕ → Type 0) : Type 0 where
  pub taken : List ℕ
  pub rest : List ℕ
  pub parts : t ≡ taken ++ rest
  pub count : unit_count taken ≡ n
  pub more : Then rest

abbrev pub Aligned : List Step → List ℕ → Type 0
Aligned [] t = Unit {0}
Aligned (Retain n ∷ d) t = Passes n t (λ rest. Aligned d rest)
Aligned (Insert text ∷ d) t = Aligned d t
Aligned (Delete n ∷ d) t = Passes n t (λ rest. Aligned d rest)

-- so it fits the text
aligned_within : (d : List Step) (t : List ℕ) → Aligned d t → reach_of d ≤ unit_count t
aligned_within [] t a = omega arith
aligned_within (Retain n ∷ d) t a = omega (arith, sum_by-cons passed (Retain n) d, aligned_within d a.rest a.more, ap unit_count a.parts, unit_count-append a.taken a.rest, a.count)
aligned_within (Insert text ∷ d) t a = omega (arith, sum_by-cons passed (Insert text) d, aligned_within d t a)
aligned_within (Delete n ∷ d) t a = omega (arith, sum_by-cons passed (Delete n) d, aligned_within d a.rest a.more, ap unit_count a.parts, unit_count-append a.taken a.rest, a.count)

further : (cs front t taken rest : List ℕ) → cs ≡ front ++ t → t ≡ taken ++ rest → cs ≡ (front ++ taken) ++ rest
further cs front t taken rest e p = e ∙ (ap (λ w. front ++ w) p ∙ sym (append_assoc front taken rest))

aligned_whole : (d : List Step) (cs front t : List ℕ) (at : ℕ) → cs ≡ front ++ t → unit_count front ≡ at → Aligned d t → first_broken cs (cuts_from at d) ≡ None
aligned_whole [] cs front t at e m a = refl
aligned_whole (Retain n ∷ d) cs front t at e m a =
    let parts = further cs front t a.taken a.rest e a.parts in
    let count : unit_count (front ++ a.taken) ≡ at + n = omega (arith, unit_count-append front a.taken, a.count) in
    rw (whole_at cs (front ++ a.taken) a.rest (at + n) parts count) (aligned_whole d cs (front ++ a.taken) a.rest (at + n) parts count a.more)
aligned_whole (Insert text ∷ d) cs front t at e m a =
    let count : unit_count front ≡ at + 0 = omega arith in
    rw (whole_at cs front t (at + 0) e count) (aligned_whole d cs front t (at + 0) e count a)
aligned_whole (Delete n ∷ d) cs front t at e m a =
    let parts = further cs front t a.taken a.rest e a.parts in
    let count : unit_count (front ++ a.taken) ≡ at + n = omega (arith, unit_count-append front a.taken, a.count) in
    rw (whole_at cs (front ++ a.taken) a.rest (at + n) parts count) (aligned_whole d cs (front ++ a.taken) a.rest (at + n) parts count a.more)

pub aligned_fits : (d : List Step) (t : List ℕ) → Aligned d t → FitsText d t
aligned_fits d t a = record { within = aligned_within d t a; whole = aligned_whole d t [] t 0 refl refl a }

aligned_kept : (n : ℕ) (d : List Step) (c : ℕ) (t : List ℕ) → width c ≡ suc n → Aligned d t → Aligned (kept_many (suc n) d) (c ∷ t)
aligned_kept n [] c t e a = rw (many_none (suc n)) tt
aligned_kept n (Retain m ∷ d) c t e a =
    rw (many_retain (suc n) m d) (record { taken = c ∷ a.taken; rest = a.rest; parts = ap (λ w. c ∷ w) a.parts; count = omega (arith, unit_count-cons c a.taken, a.count); more = a.more })
aligned_kept n (Insert text ∷ d) c t e a =
    rw (many_insert (suc n) text d) (record { taken = c ∷ []; rest = t; parts = refl; count = omega (arith, unit_count-cons c []); more = a })
aligned_kept n (Delete m ∷ d) c t e a =
    rw (many_delete (suc n) m d) (record { taken = c ∷ []; rest = t; parts = refl; count = omega (arith, unit_count-cons c []); more = a })

run-kept : (d : List Step) (u : ℕ) (us : List ℕ) → run (all_small (kept d)) (u ∷ us) ≡ u ∷ run (all_small d) us
run-kept [] u us = refl
run-kept (Retain m ∷ d) u us = refl
run-kept (Insert text ∷ d) u us = refl
run-kept (Delete m ∷ d) u us = refl

run-kept_many : (us : List ℕ) (d : List Step) (vs : List ℕ) → run (all_small (kept_many (length us) d)) (us ++ vs) ≡ us ++ run (all_small d) vs
run-kept_many [] d vs = refl
run-kept_many (u ∷ us) d vs = run-kept (kept_many (length us) d) u (us ++ vs) ∙ ap (λ w. u ∷ w) (run-kept_many us d vs)

-- a stretch of a script, and what follows it
pub record Stretches (s : List Op) : Type 0 where
  pub puts : List ℕ
  pub drops : List ℕ
  pub rest : List ℕ
  pub made : List ℕ
  pub puts_are : first_puts (wide s) ≡ units puts
  pub drops_are : first_drops (wide s) ≡ unit_count drops
  pub from : old s ≡ drops ++ rest
  pub to : new s ≡ puts ++ made
  pub aligned : Aligned (from_keep (wide s)) rest
  pub runs : run (all_small (from_keep (wide s))) (units rest) ≡ units made
  pub puts_good : AreScalars puts
  pub drops_good : AreScalars drops

-- the packed steps of the whole
pub record IsPacked (s : List Op) : Type 0 where
  pub aligned : Aligned (packed (wide s)) (old s)
  pub runs : run (all_small (packed (wide s))) (units (old s)) ≡ units (new s)

all_small-inserting : (cs : List ℕ) (d : List Step) → all_small (inserting cs ++ d) ≡ map Put (units cs) ++ all_small d
all_small-inserting [] d = refl
all_small-inserting (c ∷ cs) d = refl

all_small-deleting : (n : ℕ) (d : List Step) → all_small (deleting n ++ d) ≡ replicate n Drop ++ all_small d
all_small-deleting zero d = refl
all_small-deleting (suc n) d = refl

aligned_inserting : (cs : List ℕ) (d : List Step) (t : List ℕ) → Aligned d t → Aligned (inserting cs ++ d) t
aligned_inserting [] d t a = a
aligned_inserting (c ∷ cs) d t a = a

aligned_deleting : (n : ℕ) (cs : List ℕ) (d : List Step) (t : List ℕ) → unit_count cs ≡ n → AreScalars cs → Aligned d t → Aligned (deleting n ++ d) (cs ++ t)
aligned_deleting zero [] d t e g a = a
aligned_deleting zero (c ∷ cs) d t e g a = absurd (omega (arith, unit_count-cons c cs, width_pos c (AreScalars-head c cs g)))
aligned_deleting (suc n) cs d t e g a = record { taken = cs; rest = t; parts = refl; count = e; more = a }

pub whole_packed : (s : List Op) → Stretches s → IsPacked s
whole_packed s w =
    let d : List Step = from_keep (wide s) in
    let n : ℕ = unit_count w.drops in
    let text : decoded (first_puts (wide s)) ≡ w.puts = ap decoded w.puts_are ∙ decoded-units-AreScalars w.puts w.puts_good in
    let e : packed (wide s) ≡ inserting w.puts ++ (deleting n ++ d) =
    append_assoc (inserting (decoded (first_puts (wide s)))) (deleting (first_drops (wide s))) d
    ∙ (ap (λ v. inserting v ++ (deleting (first_drops (wide s)) ++ d)) text ∙ ap (λ v. inserting w.puts ++ (deleting v ++ d)) w.drops_are) in
    let small : all_small (packed (wide s)) ≡ map Put (units w.puts) ++ (replicate n Drop ++ all_small d) =
    ap all_small e ∙ (all_small-inserting w.puts (deleting n ++ d) ∙ ap (λ v. map Put (units w.puts) ++ v) (all_small-deleting n d)) in
    record {
      aligned = rw (e, w.from) (aligned_inserting w.puts (deleting n ++ d) (w.drops ++ w.rest) (aligned_deleting n w.drops d w.rest refl w.drops_good w.aligned));
      runs = rw (small, w.from, w.to, units-append, units-append)
          (run-puts (units w.puts) (units w.drops ++ units w.rest) (replicate n Drop ++ all_small d)
          ∙ ap (λ v. units w.puts ++ v) (run-drops (units w.drops) (units w.rest) (all_small d) ∙ w.runs));
    }

with_kept : (n c : ℕ) (s : List Op) → width c ≡ suc n → IsPacked s → Stretches (Kept c ∷ s)
with_kept n c s e p =
    let d : List Step = packed (wide s) in
    let k : from_keep (wide (Kept c ∷ s)) ≡ kept_many (suc n) d = rw e (from_keep-keeps n (wide s)) in
    record {
      puts = [];
      drops = [];
      rest = c ∷ old s;
      made = c ∷ new s;
      puts_are = rw e refl;
      drops_are = rw e refl;
      from = refl;
      to = refl;
      aligned = rw k (aligned_kept n d c (old s) e p.aligned);
      runs =
          ap (λ w. run (all_small w) (units (c ∷ old s))) (k ∙ ap (λ m. kept_many m d) (sym e))
          ∙ (run-kept_many (units_of_character c) d (units (old s)) ∙ ap (λ w. units_of_character c ++ w) p.runs);
      puts_good = refl;
      drops_good = refl;
    }

with_new : (c : ℕ) (s : List Op) → is_scalar c ≡ true → Stretches s → Stretches (New c ∷ s)
with_new c s good w = record {
  puts = c ∷ w.puts;
  drops = w.drops;
  rest = w.rest;
  made = w.made;
  puts_are = puts_past (units_of_character c) (wide s) ∙ ap (λ v. units_of_character c ++ v) w.puts_are;
  drops_are = drops_past_puts (units_of_character c) (wide s) ∙ w.drops_are;
  from = w.from;
  to = ap (λ v. c ∷ v) w.to;
  aligned = rw (keep_past_puts (units_of_character c) (wide s)) w.aligned;
  runs = rw (keep_past_puts (units_of_character c) (wide s)) w.runs;
  puts_good = AreScalars-cons c w.puts good w.puts_good;
  drops_good = w.drops_good;
}

with_gone : (c : ℕ) (s : List Op) → is_scalar c ≡ true → Stretches s → Stretches (Gone c ∷ s)
with_gone c s good w = record {
  puts = w.puts;
  drops = c ∷ w.drops;
  rest = w.rest;
  made = w.made;
  puts_are = puts_past_drops (width c) (wide s) ∙ w.puts_are;
  drops_are = omega (arith, drops_past (width c) (wide s), w.drops_are, unit_count-cons c w.drops);
  from = ap (λ v. c ∷ v) w.from;
  to = w.to;
  aligned = rw (keep_past_drops (width c) (wide s)) w.aligned;
  runs = rw (keep_past_drops (width c) (wide s)) w.runs;
  puts_good = w.puts_good;
  drops_good = AreScalars-cons c w.drops good w.drops_good;
}

at_least_one : (n : ℕ) → 0 < n → (m : ℕ) × (n ≡ suc m)
at_least_one zero lt = absurd (omega arith)
at_least_one (suc m) lt = (m, refl)

pub stretches : (s : List Op) → AreGood s → Stretches s
stretches [] g = record { puts = []; drops = []; rest = []; made = []; puts_are = refl; drops_are = refl; from = refl; to = refl; aligned = tt; runs = refl; puts_good = refl; drops_good = refl }
stretches (Kept c ∷ s) g = let n = at_least_one (width c) (width_pos c g.0) in with_kept n.0 c s n.1 (whole_packed s (stretches s g.1))
stretches (New c ∷ s) g = with_new c s g.0 (stretches s g.1)
stretches (Gone c ∷ s) g = with_gone c s g.0 (stretches s g.1)

pub packed_script : (s : List Op) → AreGood s → FitsText (packed (wide s)) (old s) × (text_after (packed (wide s)) (old s) ≡ new s)
packed_script s g =
    let p = whole_packed s (stretches s g) in (
      aligned_fits (packed (wide s)) (old s) p.aligned,
      ap decoded (woven_is_run (all_small (packed (wide s))) (units (old s)) ∙ p.runs) ∙ decoded-units-AreScalars (new s) (new-AreScalars s g),
    )
