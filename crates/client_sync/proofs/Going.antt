-- What is left of a client's edits and revisions when cells go.
use Rattle.std.proofs.Common.{◌≡◌, ℕ, zero, suc, ◌+◌, ◌<◌, ◌≤◌, ◌==◌, not, true, false, if◌then◌else◌, List, [], ◌∷◌, ◌++◌, Some, None, length, take, get_or, map, refl, sym, ap, subst, ◌∙◌, arith}
use Rattle.std.specs.Prelude.{Contains}
use Rattle.std.proofs.lemmas.Bool.{eqb-true}
use Rattle.std.proofs.lemmas.Bool.Decides.{nat_tests}
use Rattle.std.proofs.lemmas.List.{take_all, take_more}
use Rattle.notebook.specs.declared.parts.Cell.{Cell}
use Rattle.notebook.specs.declared.parts.Parts.{Parts}
use Rattle.notebook.specs.Book.{cells, found, resourced, with_source}
use Rattle.notebook.specs.Rules.{AreDistinct, IsNotebook, cell_number}
use Rattle.session_ops.specs.Snapshot.{listed_revision, listed_cell}
use Rattle.client_sync.specs.Client.{Client as Holder, Pending, pending_of, with_pending, own_source, without, without_cells}
use Rattle.client_sync.specs.Going.{IsOver, HasForgotten, without_numbers}
use Rattle.client_sync.specs.Revisions.{without_revision, without_revisions}
use Rattle.client_sync.specs.Stands.{HasEdits, HaveServerTexts, IsPendingAt, pending_in}
use Rattle.client_sync.specs.declared.client.Client.{Client}
use Rattle.client_sync.proofs.Books.{live-apart, with-one-source}
use Rattle.client_sync.proofs.Edits.{without-none, without-same, without-other, apart-without, contains-behind, contains-rest}
use Rattle.session_ops.proofs.Live.{found-number}
use Rattle.client_sync.proofs.Returning.{gone-pending}
use Rattle.client_sync.proofs.Texts.{StandsThere, stands-there, texts-append}

-- the cells by their numbers
pub by-numbers : (cs : List Cell) (ps : List Pending) → without_cells cs ps ≡ without_numbers (map cell_number cs) ps
by-numbers [] ps = refl
by-numbers (c ∷ cs) ps = by-numbers cs (without c.id ps)

-- numbers one after the other
numbers-append : (xs : List ℕ) (k : ℕ) (ps : List Pending) → without_numbers (xs ++ k ∷ []) ps ≡ without k (without_numbers xs ps)
numbers-append [] k ps = refl
numbers-append (x ∷ xs) k ps = numbers-append xs k (without x ps)

revisions-append : (xs : List ℕ) (k : ℕ) (rs : List (ℕ × ℕ)) → without_revisions (xs ++ k ∷ []) rs ≡ without_revision k (without_revisions xs rs)
revisions-append [] k rs = refl
revisions-append (x ∷ xs) k rs = revisions-append xs k (without_revision x rs)

-- what is pending for a cell once some cells' edits went
pub none-stays : (k : ℕ) (xs : List ℕ) (ps : List Pending) → pending_of k ps ≡ None → pending_of k (without_numbers xs ps) ≡ None
none-stays k [] ps e = e
none-stays k (x ∷ xs) ps e =
    none-stays k xs (without x ps)
    (elim (x == k)
    as (λ b. (x == k) ≡ b → pending_of k (without x ps) ≡ None)
    [ true ↦ λ t. subst (λ i. pending_of k (without i ps) ≡ None) (sym (eqb-true x k t)) (without-same k ps) | false ↦ λ t. without-other x k ps t ∙ e ]
    refl)

pub gone-none : (k : ℕ) (cs : List Cell) (c : Cell) (ps : List Pending) → found k cs ≡ Some c → pending_of k (without_numbers (map cell_number cs) ps) ≡ None
gone-none k [] c ps e = absurd (cc e)
gone-none k (d ∷ cs) c ps e =
    elim (d.id == k)
    as (λ b. (d.id == k) ≡ b → (if b then Some d else found k cs) ≡ Some c → pending_of k (without_numbers (map cell_number cs) (without d.id ps)) ≡ None)
    [ true ↦ λ t h. none-stays k (map cell_number cs) (without d.id ps) (subst (λ i. pending_of k (without i ps) ≡ None) (sym (eqb-true d.id k t)) (without-same k ps)) | false ↦ λ t h. gone-none k cs c (without d.id ps) h ]
    refl
    e

pub others-stay : (k : ℕ) (cs : List Cell) (ps : List Pending) → found k cs ≡ None → pending_of k (without_numbers (map cell_number cs) ps) ≡ pending_of k ps
others-stay k [] ps e = refl
others-stay k (d ∷ cs) ps e =
    elim (d.id == k)
    as (λ b. (d.id == k) ≡ b → (if b then Some d else found k cs) ≡ None → pending_of k (without_numbers (map cell_number cs) (without d.id ps)) ≡ pending_of k ps)
    [ true ↦ λ t h. absurd (cc h) | false ↦ λ t h. others-stay k cs (without d.id ps) h ∙ without-other d.id k ps t ]
    refl
    e

-- the revision of a cell once some cells went
listed-same : (k : ℕ) (rs : List (ℕ × ℕ)) → listed_revision k (without_revision k rs) ≡ None
listed-same k [] = refl
listed-same k (r ∷ rs) =
    elim (r.0 == k)
    as (λ b. (r.0 == k) ≡ b → listed_revision k (if not b then r ∷ without_revision k rs else without_revision k rs) ≡ None)
    [ true ↦ λ t. listed-same k rs | false ↦ λ t. ap (λ b. if b then Some r.1 else listed_revision k (without_revision k rs)) t ∙ listed-same k rs ]
    refl

listed-other : (j k : ℕ) (rs : List (ℕ × ℕ)) → (j == k) ≡ false → listed_revision k (without_revision j rs) ≡ listed_revision k rs
listed-other j k [] ne = refl
listed-other j k (r ∷ rs) ne =
    elim (r.0 == j)
    as (λ b. (r.0 == j) ≡ b → listed_revision k (if not b then r ∷ without_revision j rs else without_revision j rs) ≡ (if r.0 == k then Some r.1 else listed_revision k rs)) [
      | true ↦ λ t. let no : (r.0 == k) ≡ false = grind (arith, nat_tests, t, ne) in listed-other j k rs ne ∙ sym (ap (λ b. if b then Some r.1 else listed_revision k rs) no)
      | false ↦ λ t. ap (λ o. if r.0 == k then Some r.1 else o) (listed-other j k rs ne)
    ]
    refl

unlisted-stays : (k : ℕ) (xs : List ℕ) (rs : List (ℕ × ℕ)) → listed_revision k rs ≡ None → listed_revision k (without_revisions xs rs) ≡ None
unlisted-stays k [] rs e = e
unlisted-stays k (x ∷ xs) rs e =
    unlisted-stays k xs (without_revision x rs)
    (elim (x == k)
    as (λ b. (x == k) ≡ b → listed_revision k (without_revision x rs) ≡ None)
    [ true ↦ λ t. subst (λ i. listed_revision k (without_revision i rs) ≡ None) (sym (eqb-true x k t)) (listed-same k rs) | false ↦ λ t. listed-other x k rs t ∙ e ]
    refl)

pub gone-unlisted : (k : ℕ) (cs : List Cell) (c : Cell) (rs : List (ℕ × ℕ)) → found k cs ≡ Some c → listed_revision k (without_revisions (map cell_number cs) rs) ≡ None
gone-unlisted k [] c rs e = absurd (cc e)
gone-unlisted k (d ∷ cs) c rs e =
    elim (d.id == k)
    as (λ b. (d.id == k) ≡ b → (if b then Some d else found k cs) ≡ Some c → listed_revision k (without_revisions (map cell_number cs) (without_revision d.id rs)) ≡ None)
    [ true ↦ λ t h. unlisted-stays k (map cell_number cs) (without_revision d.id rs) (subst (λ i. listed_revision k (without_revision i rs) ≡ None) (sym (eqb-true d.id k t)) (listed-same k rs)) | false ↦ λ t h. gone-unlisted k cs c (without_revision d.id rs) h ]
    refl
    e

pub others-listed : (k : ℕ) (cs : List Cell) (rs : List (ℕ × ℕ)) → found k cs ≡ None → listed_revision k (without_revisions (map cell_number cs) rs) ≡ listed_revision k rs
others-listed k [] rs e = refl
others-listed k (d ∷ cs) rs e =
    elim (d.id == k)
    as (λ b. (d.id == k) ≡ b → (if b then Some d else found k cs) ≡ None → listed_revision k (without_revisions (map cell_number cs) (without_revision d.id rs)) ≡ listed_revision k rs)
    [ true ↦ λ t h. absurd (cc h) | false ↦ λ t h. others-listed k cs (without_revision d.id rs) h ∙ listed-other d.id k rs t ]
    refl
    e

-- the cells of the list go on differing
contains-one : (m : ℕ) (ms ns : List ℕ) (n : ℕ) → Contains (m ∷ ms) n → (Contains ms n → Contains ns n) → Contains (m ∷ ns) n
contains-one m ms ns n (zero, within, at) f = (0, omega arith, at)
contains-one m ms ns n (suc k, within, at) f = contains-behind m n ns (f (k, omega (arith, within), at))

contains-listed : (k : ℕ) (rs : List (ℕ × ℕ)) (n : ℕ) → Contains (map listed_cell (without_revision k rs)) n → Contains (map listed_cell rs) n
contains-listed k [] n w = w
contains-listed k (r ∷ rs) n w =
    elim (r.0 == k)
    as (λ b. Contains (map listed_cell (if not b then r ∷ without_revision k rs else without_revision k rs)) n → Contains (map listed_cell (r ∷ rs)) n)
    [ true ↦ λ h. contains-behind r.0 n (map listed_cell rs) (contains-listed k rs n h) | false ↦ λ h. contains-one r.0 (map listed_cell (without_revision k rs)) (map listed_cell rs) n h (contains-listed k rs n) ]
    w

listed-apart-one : (k : ℕ) (rs : List (ℕ × ℕ)) → AreDistinct (map listed_cell rs) → AreDistinct (map listed_cell (without_revision k rs))
listed-apart-one k [] d = tt
listed-apart-one k (r ∷ rs) d =
    elim (r.0 == k)
    as (λ b. AreDistinct (map listed_cell (if not b then r ∷ without_revision k rs else without_revision k rs)))
    [ true ↦ listed-apart-one k rs d.1 | false ↦ (λ w. d.0 (contains-listed k rs r.0 w), listed-apart-one k rs d.1) ]

pub listed-apart : (xs : List ℕ) (rs : List (ℕ × ℕ)) → AreDistinct (map listed_cell rs) → AreDistinct (map listed_cell (without_revisions xs rs))
listed-apart [] rs d = d
listed-apart (x ∷ xs) rs d = listed-apart xs (without_revision x rs) (listed-apart-one x rs d)

pub absent-listed : (k : ℕ) (rs : List (ℕ × ℕ)) → listed_revision k rs ≡ None → ¬ Contains (map listed_cell rs) k
absent-listed k [] e = λ w. absurd (omega (arith, w.1))
absent-listed k (r ∷ rs) e =
    elim (r.0 == k)
    as (λ b. (r.0 == k) ≡ b → (if b then Some r.1 else listed_revision k rs) ≡ None → ¬ Contains (map listed_cell (r ∷ rs)) k)
    [ true ↦ λ t h. absurd (cc h) | false ↦ λ t h w. absent-listed k rs h (contains-rest r.0 (map listed_cell rs) k t w) ]
    refl
    e

-- a holder with these pending edits alone
abbrev with_edits : List Pending → Holder
with_edits ps = record { number = 0; seen = []; pending = ps; outbox = [] }

-- a cell without pending edits
pub over-none : (n : Parts) (c : Client) (ps : List Pending) (k : ℕ) → IsOver n c ps → pending_of k (map pending_in c.pending) ≡ None → IsOver n c (without k ps)
over-none n c ps k is none = subst (IsOver n c) (sym (without-none k ps (ap (pending_of k) (sym is.pending) ∙ none))) is

-- a cell whose pending edits are dropped has the server's text again
dropped-book : (n : Parts) (ps : List Pending) (k : ℕ) (t : List ℕ) (own : Cell) → IsNotebook n → found k (cells n) ≡ Some own → own.source ≡ t → with_source k t (resourced (own_source ps) n) ≡ resourced (own_source (without k ps)) n
dropped-book n ps k t own rules there same =
    let number : own.id ≡ k = found-number k (cells n) own there in
    let none : pending_of own.id (without k ps) ≡ None = subst (λ i. pending_of i (without k ps) ≡ None) (sym number) (without-same k ps) in
    with-one-source (own_source ps) (own_source (without k ps)) n k t own (live-apart n rules) there
    (ap (λ o. with_pending o own.source) none ∙ same)
    (λ c ne. ap (λ o. with_pending o c.source) (without-other k c.id ps (grind (arith, nat_tests, ne))))

pub over-dropped : (n : Parts) (c c' : Client) (ps : List Pending) (k at : ℕ) (p : IsPendingAt c.pending k at) → IsOver n c ps → c'.pending ≡ p.front ++ p.back → c'.book ≡ with_source k p.here.server c.book → IsOver n c' (without k ps)
over-dropped n c c' ps k at p is ep eb =
    let m : Holder = with_edits ps in
    let has : HasEdits c.pending [] m = record { pending = is.pending; outbox = refl; apart = is.apart } in
    let s : StandsThere n c.pending k at p = stands-there n c.pending [] m k at p is.texts has in
    record {
      book = eb ∙ (ap (with_source k p.here.server) is.book ∙ dropped-book n ps k p.here.server s.here.own is.notebook s.here.there s.here.source);
      pending = gone-pending c.pending c'.pending m k at p is.pending is.apart ep;
      apart = apart-without k ps is.apart;
      texts = subst (HaveServerTexts n) (sym ep) (texts-append n p.front p.back s.front s.back);
      notebook = is.notebook;
    }

-- over the cells, one after the other
pub forgotten-none : (c : Client) → HasForgotten c c []
forgotten-none c = record { over = λ n ps is. is; next_cell = refl; next_section = refl; rest = refl }

pub forgotten-more : (c d e : Client) (xs : List ℕ) (k : ℕ) → HasForgotten c d xs → HasForgotten d e (k ∷ []) → HasForgotten c e (xs ++ k ∷ [])
forgotten-more c d e xs k first next =
    let revs : d.revs ≡ without_revisions xs c.revs = ap (λ (x : Client). x.revs) first.rest in
    record {
      over = λ n ps is. subst (IsOver n e) (sym (numbers-append xs k ps)) (next.over n (without_numbers xs ps) (first.over n ps is));
      next_cell = next.next_cell ∙ first.next_cell;
      next_section = next.next_section ∙ first.next_section;
      rest = next.rest
          ∙ (ap (λ (x : Client). record x { book = e.book; revs = without_revision k d.revs; pending = e.pending }) first.rest
          ∙ ap (λ rs. record c { book = e.book; revs = rs; pending = e.pending }) (ap (without_revision k) revs ∙ sym (revisions-append xs k c.revs)));
    }

pub forgotten-turn : (c d e : Client) (ks : List ℕ) (i : ℕ) → i < length ks → HasForgotten c d (take i ks) → HasForgotten d e (get_or ks i 0 ∷ []) → HasForgotten c e (take (i + 1) ks)
forgotten-turn c d e ks i within first next = subst (HasForgotten c e) (sym (take_more ks i 0 within)) (forgotten-more c d e (take i ks) (get_or ks i 0) first next)

pub forgotten-all : (c d : Client) (ks : List ℕ) (i : ℕ) → length ks ≤ i → HasForgotten c d (take i ks) → HasForgotten c d ks
forgotten-all c d ks i past is = subst (HasForgotten c d) (take_all i ks past) is
