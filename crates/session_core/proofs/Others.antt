-- What a state says of a cell's source while a session does other things.
use Rattle.std.proofs.Common.{◌≡◌, ℕ, ◌==◌, max, true, false, if◌then◌else◌, List, [], ◌∷◌, ◌++◌, Some, length, refl, sym, ap, subst, ◌∙◌, arith}
use Rattle.std.specs.Prelude.{◌&&◌}
use Rattle.delta.specs.declared.Step.{Step}
use Rattle.notebook.specs.declared.parts.Cell.{Cell}
use Rattle.notebook.specs.Book.{found}
use Rattle.revisions.specs.declared.source_log.SourceLog.{SourceLog}
use Rattle.revisions.specs.Kept.{made_by}
use Rattle.revisions.specs.Log.{IsLog}
use Rattle.revisions.proofs.Chains.{leads-made}
use Rattle.session_ops.specs.State.{State, Known, Taken, first_source, beginnings, taken_by, floor}
use Rattle.session_core.specs.Stands.{StandsFor, floors_of, source_in}
use Rattle.session_core.proofs.Knowing.{floor-append}

-- a state that says the same of the cell's deltas and of the clients
pub stands-same : (s t : State) (cell : ℕ) (text : List ℕ) (log : SourceLog) → StandsFor s cell text log → first_source cell t.began ≡ first_source cell s.began → taken_by cell t.taken ≡ taken_by cell s.taken → t.joined ≡ s.joined → ((n : ℕ) → floor n cell t.known ≡ floor n cell s.known)
    → StandsFor t cell text log
stands-same s t cell text log h b xs j fs =
    let floors : floors_of cell t.known t.joined ≡ floors_of cell s.known s.joined = ap (floors_of cell t.known) j ∙ floors-same s.joined in
    record {
      log_of =
          subst (λ a. IsLog (record (source_in t cell text) { first = a }) log) (sym b)
          (subst (λ a. IsLog (record (source_in s cell text) { taken = a; floors = floors_of cell t.known t.joined }) log) (sym xs)
          (subst (λ a. IsLog (record (source_in s cell text) { floors = a }) log) (sym floors) h.log_of));
      known = λ n. omega (arith, fs n, ap length xs, h.known n);
    }
  where
    floors-same : (ns : List ℕ) → floors_of cell t.known ns ≡ floors_of cell s.known ns
    floors-same [] = refl
    floors-same (n ∷ ns) = rw (fs n, floors-same ns) refl

-- another cell takes a delta
taken-elsewhere : (cell other : ℕ) (ts : List Taken) (x : List Step) → (other == cell) ≡ false → taken_by cell (ts ++ record { cell = other; delta = x } ∷ []) ≡ taken_by cell ts
taken-elsewhere cell other [] x e = rw e refl
taken-elsewhere cell other (t ∷ ts) x e = ap (λ w. if t.cell == cell then t.delta ∷ w else w) (taken-elsewhere cell other ts x e)

knows-elsewhere : (n m cell other rev : ℕ) → (other == cell) ≡ false → floor n cell (record { client = m; cell = other; rev = rev } ∷ []) ≡ 0
knows-elsewhere n m cell other rev e = rw e (elim (m == n) as (λ b. (if b && false then max rev 0 else 0) ≡ 0) [ true ↦ refl | false ↦ refl ])

floor-elsewhere : (n m cell other rev : ℕ) (ks : List Known) → (other == cell) ≡ false → floor n cell (ks ++ record { client = m; cell = other; rev = rev } ∷ []) ≡ floor n cell ks
floor-elsewhere n m cell other rev ks e = omega (arith, floor-append n cell ks (record { client = m; cell = other; rev = rev } ∷ []), knows-elsewhere n m cell other rev e)

pub taken-beside : (s t : State) (cell other client rev : ℕ) (x : List Step) (text : List ℕ) (log : SourceLog) → StandsFor s cell text log → (other == cell) ≡ false
    → t.began ≡ s.began → t.joined ≡ s.joined → t.taken ≡ s.taken ++ record { cell = other; delta = x } ∷ [] → t.known ≡ s.known ++ record { client = client; cell = other; rev = rev } ∷ [] → StandsFor t cell text log
taken-beside s t cell other client rev x text log h e b j xs ks =
    stands-same s t cell text log h (ap (first_source cell) b) (ap (taken_by cell) xs ∙ taken-elsewhere cell other s.taken x e) j (λ n. ap (floor n cell) ks ∙ floor-elsewhere n client cell other rev s.known e)

-- a client reports another cell's revision
pub reported-beside : (s t : State) (cell other client rev : ℕ) (text : List ℕ) (log : SourceLog) → StandsFor s cell text log → (other == cell) ≡ false
    → t.began ≡ s.began → t.joined ≡ s.joined → t.taken ≡ s.taken → t.known ≡ s.known ++ record { client = client; cell = other; rev = rev } ∷ [] → StandsFor t cell text log
reported-beside s t cell other client rev text log h e b j xs ks =
    stands-same s t cell text log h (ap (first_source cell) b) (ap (taken_by cell) xs) j (λ n. ap (floor n cell) ks ∙ floor-elsewhere n client cell other rev s.known e)

-- in an opening state each live cell begins with its source
pub begins : (cell : ℕ) (cs : List Cell) (c : Cell) → found cell cs ≡ Some c → first_source cell (beginnings cs) ≡ c.source
begins cell [] c e = absurd (cc e)
begins cell (d ∷ cs) c e =
    elim (d.id == cell)
    as (λ b. (if b then Some d else found cell cs) ≡ Some c → (if b then d.source else first_source cell (beginnings cs)) ≡ c.source)
    [ true ↦ λ k. (let same : d ≡ c = cc k in ap (λ w. w.source) same) | false ↦ λ k. begins cell cs c k ]
    e

-- the source is what the cell's deltas make of the source with which it began
pub source-made : (s : State) (cell : ℕ) (text : List ℕ) (log : SourceLog) → StandsFor s cell text log → made_by (taken_by cell s.taken) (first_source cell s.began) ≡ text
source-made s cell text log h = leads-made (taken_by cell s.taken) (first_source cell s.began) text h.log_of.holds.leads
