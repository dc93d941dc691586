-- Clients in memory, one by one in the order of those that they stand for.
use Rattle.std.proofs.Common.{◌≡◌, ◌≢◌, ℕ, zero, suc, ◌+◌, ◌<◌, ◌≤◌, ◌==◌, true, false, if◌then◌else◌, List, [], ◌∷◌, ◌++◌, length, take, drop, get_or, set, map, ne_eqb, Option, Some, None, refl, sym, ap, subst, ◌∙◌, arith, add-one}
use Rattle.std.specs.List.{remove}
use Rattle.std.proofs.lemmas.Bool.{eqb-true, eq-eqb}
use Rattle.std.proofs.lemmas.List.{drop_more, take_all}
use Rattle.notebook.specs.declared.parts.Parts.{Parts}
use Rattle.session_ops.specs.Numbers.{is_in}
use Rattle.session_ops.proofs.Members.{in-here, in-later}
use Rattle.client_sync.specs.Client.{Client as Holder, client_of, put_client, without_client}
use Rattle.client_sync.specs.declared.client.Client.{Client}
use Rattle.client_sync.specs.Stands.{Mirrors, number_in}
use Rattle.world.specs.Claims.{number_of}
use Rattle.world.specs.Sound.{AreApart}
use Rattle.world.specs.Plays.{AreMirrors, IsHolderAt, later, place_in}

-- one more at the end
pub mirrors-append : (n0 : Parts) (cs : List Client) (ms : List Holder) (c : Client) (m : Holder) → AreMirrors n0 cs ms → Mirrors n0 c m → AreMirrors n0 (cs ++ c ∷ []) (ms ++ m ∷ [])
mirrors-append n0 [] [] c m all is = (is, tt)
mirrors-append n0 [] (x ∷ ms) c m all is = absurd all
mirrors-append n0 (y ∷ cs) [] c m all is = absurd all
mirrors-append n0 (y ∷ cs) (x ∷ ms) c m all is = (all.0, mirrors-append n0 cs ms c m all.1 is)

-- a client in memory at a place, and the one that it stands for
pub record IsPair (n0 : Parts) (c : Client) (ms : List Holder) (i : ℕ) : Type 0 where
  pub front : List Holder
  pub here : Holder
  pub back : List Holder
  pub parts : ms ≡ front ++ here ∷ back
  pub place : i ≡ length front
  pub before : take i ms ≡ front
  pub next : take (suc i) ms ≡ front ++ here ∷ []
  pub mirrors : Mirrors n0 c here

pub pair-at : (n0 : Parts) (cs : List Client) (ms : List Holder) (i : ℕ) (c : Client) → AreMirrors n0 cs ms → i < length cs → c ≡ get_or cs i c → IsPair n0 c ms i
pair-at n0 [] ms i c all within at = absurd (omega (arith, within))
pair-at n0 (x ∷ cs) [] i c all within at = absurd all
pair-at n0 (x ∷ cs) (m ∷ ms) zero c all within at = record { front = []; here = m; back = ms; parts = refl; place = refl; before = refl; next = refl; mirrors = subst (λ y. Mirrors n0 y m) (sym at) all.0 }
pair-at n0 (x ∷ cs) (m ∷ ms) (suc i) c all within at =
    let p : IsPair n0 c ms i = pair-at n0 cs ms i c all.1 (omega (arith, within)) at in
    record { front = m ∷ p.front; here = p.here; back = p.back; parts = ap (λ k. m ∷ k) p.parts; place = ap (λ k. suc k) p.place; before = ap (λ k. m ∷ k) p.before; next = ap (λ k. m ∷ k) p.next; mirrors = p.mirrors }

-- the clients behind some of whom none has the number
client-behind : (n : ℕ) (xs ys : List Holder) → client_of n xs ≡ None → client_of n (xs ++ ys) ≡ client_of n ys
client-behind n [] ys none = refl
client-behind n (x ∷ xs) ys none =
    elim (x.number == n)
    as (λ b. (if b then Some x else client_of n xs) ≡ None → (if b then Some x else client_of n (xs ++ ys)) ≡ client_of n ys)
    [ true ↦ λ k. absurd (cc k) | false ↦ λ k. client-behind n xs ys k ]
    none

client-first : (n : ℕ) (m : Holder) (ms : List Holder) → m.number ≡ n → client_of n (m ∷ ms) ≡ Some m
client-first n m ms same = ap (λ b. if b then Some m else client_of n ms) (eq-eqb m.number n same)

-- the client at its place is the number's
pub client-at : (n : ℕ) (ms : List Holder) (at : ℕ) → (p : IsHolderAt n ms at) → client_of n ms ≡ Some p.here
client-at n ms at p = ap (client_of n) p.parts ∙ (client-behind n p.front (p.here ∷ p.back) p.first ∙ client-first n p.here p.back p.number)

-- none of the clients up to this one has the number
pub nobody-more : (n0 : Parts) (cs : List Client) (ms : List Holder) (n i : ℕ) (c : Client) → AreMirrors n0 cs ms → i < length cs → c ≡ get_or cs i c → client_of n (take i ms) ≡ None → ((m : Holder) → Mirrors n0 c m → m.number ≡ n → ⊥) → client_of n (take (i + 1) ms) ≡ None
nobody-more n0 cs ms n i c all within at none other =
    let p : IsPair n0 c ms i = pair-at n0 cs ms i c all within at in
    let before : client_of n p.front ≡ None = subst (λ k. client_of n k ≡ None) p.before none in
    let next : take (i + 1) ms ≡ p.front ++ p.here ∷ [] = rw add-one p.next in
    ap (client_of n) next
    ∙ (client-behind n p.front (p.here ∷ []) before ∙ elim (p.here.number == n) as (λ b. (p.here.number == n) ≡ b → (if b then Some p.here else None) ≡ None) [ true ↦ λ t. absurd (other p.here p.mirrors (eqb-true p.here.number n t)) | false ↦ λ t. refl ] refl)

-- the first of the number
pub first-at : (n0 : Parts) (cs : List Client) (ms : List Holder) (n i : ℕ) (c : Client) → AreMirrors n0 cs ms → i < length cs → c ≡ get_or cs i c → client_of n (take i ms) ≡ None → ((m : Holder) → Mirrors n0 c m → m.number ≡ n) → IsHolderAt n ms i
first-at n0 cs ms n i c all within at none own =
    let p : IsPair n0 c ms i = pair-at n0 cs ms i c all within at in
    record { front = p.front; here = p.here; back = p.back; parts = p.parts; place = p.place; number = own p.here p.mirrors; first = subst (λ k. client_of n k ≡ None) p.before none }

-- there are as many clients in memory
pub mirrors-length : (n0 : Parts) (cs : List Client) (ms : List Holder) → AreMirrors n0 cs ms → length cs ≡ length ms
mirrors-length n0 [] [] all = refl
mirrors-length n0 [] (m ∷ ms) all = absurd all
mirrors-length n0 (c ∷ cs) [] all = absurd all
mirrors-length n0 (c ∷ cs) (m ∷ ms) all = ap (λ k. suc k) (mirrors-length n0 cs ms all.1)

-- a client in memory behind some stands for the one behind those
mirror-behind : (n0 : Parts) (cs : List Client) (front : List Holder) (m : Holder) (back : List Holder) (c : Client) → AreMirrors n0 cs (front ++ m ∷ back) → c ≡ get_or cs (length front) c → Mirrors n0 c m
mirror-behind n0 [] [] m back c all at = absurd all
mirror-behind n0 [] (f ∷ front) m back c all at = absurd all
mirror-behind n0 (x ∷ cs) [] m back c all at = subst (λ y. Mirrors n0 y m) (sym at) all.0
mirror-behind n0 (x ∷ cs) (f ∷ front) m back c all at = mirror-behind n0 cs front m back c all.1 at

-- the client in memory at the place of a number's client stands for it
pub mirror-at : (n0 : Parts) (cs : List Client) (ms : List Holder) (n at : ℕ) (c : Client) → AreMirrors n0 cs ms → c ≡ get_or cs at c → (p : IsHolderAt n ms at) → Mirrors n0 c p.here
mirror-at n0 cs ms n at c all is p = mirror-behind n0 cs p.front p.here p.back c (subst (AreMirrors n0 cs) p.parts all) (subst (λ i. c ≡ get_or cs i c) p.place is)

-- another in its place
mirrors-put : (n0 : Parts) (cs : List Client) (front : List Holder) (m x : Holder) (back : List Holder) (c : Client) → AreMirrors n0 cs (front ++ m ∷ back) → Mirrors n0 c x → AreMirrors n0 (set cs (length front) c) (front ++ x ∷ back)
mirrors-put n0 [] [] m x back c all is = absurd all
mirrors-put n0 [] (f ∷ front) m x back c all is = absurd all
mirrors-put n0 (y ∷ cs) [] m x back c all is = (is, all.1)
mirrors-put n0 (y ∷ cs) (f ∷ front) m x back c all is = (all.0, mirrors-put n0 cs front m x back c all.1 is)

pub mirrors-set : (n0 : Parts) (cs : List Client) (ms : List Holder) (n at : ℕ) (c : Client) (x : Holder) → AreMirrors n0 cs ms → (p : IsHolderAt n ms at) → Mirrors n0 c x → AreMirrors n0 (set cs at c) (p.front ++ x ∷ p.back)
mirrors-set n0 cs ms n at c x all p is = subst (λ i. AreMirrors n0 (set cs i c) (p.front ++ x ∷ p.back)) (sym p.place) (mirrors-put n0 cs p.front p.here x p.back c (subst (AreMirrors n0 cs) p.parts all) is)

-- putting a client in its place changes no other client
put-absent : (x : Holder) (ms : List Holder) → is_in x.number (map number_of ms) ≡ false → put_client x ms ≡ ms
put-absent x [] absent = refl
put-absent x (m ∷ ms) absent =
    elim (m.number == x.number)
    as (λ b. (if b then true else is_in x.number (map number_of ms)) ≡ false → (if b then x else m) ∷ put_client x ms ≡ m ∷ ms)
    [ true ↦ λ k. absurd (cc k) | false ↦ λ k. ap (λ r. m ∷ r) (put-absent x ms k) ]
    absent

member-behind : (front : List Holder) (m : Holder) (back : List Holder) → is_in m.number (map number_of (front ++ m ∷ back)) ≡ true
member-behind [] m back = in-here m.number (map number_of back)
member-behind (f ∷ front) m back = in-later m.number f.number (map number_of (front ++ m ∷ back)) (member-behind front m back)

put-parts : (front : List Holder) (m x : Holder) (back : List Holder) → x.number ≡ m.number → AreApart (map number_of (front ++ m ∷ back)) → put_client x (front ++ m ∷ back) ≡ front ++ x ∷ back
put-parts [] m x back same apart =
    let here : (m.number == x.number) ≡ true = eq-eqb m.number x.number (sym same) in
    ap (λ b. (if b then x else m) ∷ put_client x back) here ∙ ap (λ r. x ∷ r) (put-absent x back (subst (λ n. is_in n (map number_of back) ≡ false) (sym same) apart.0))
put-parts (f ∷ front) m x back same apart =
    elim (f.number == x.number)
    as (λ b. (f.number == x.number) ≡ b → (if b then x else f) ∷ put_client x (front ++ m ∷ back) ≡ f ∷ (front ++ x ∷ back)) [
      | true ↦ λ t. let own : f.number ≡ m.number = eqb-true f.number x.number t ∙ same in
          let wrong : true ≡ false = sym (member-behind front m back) ∙ subst (λ n. is_in n (map number_of (front ++ m ∷ back)) ≡ false) own apart.0 in
          absurd (cc wrong)
      | false ↦ λ t. ap (λ r. f ∷ r) (put-parts front m x back same apart.1)
    ]
    refl

pub put-at : (n : ℕ) (ms : List Holder) (at : ℕ) (x : Holder) → (p : IsHolderAt n ms at) → x.number ≡ p.here.number → AreApart (map number_of ms) → put_client x ms ≡ p.front ++ x ∷ p.back
put-at n ms at x p same apart = ap (put_client x) p.parts ∙ put-parts p.front p.here x p.back same (subst (λ k. AreApart (map number_of k)) p.parts apart)

-- none of them has the number
pub nobody-at-all : (n0 : Parts) (cs : List Client) (ms : List Holder) (n i : ℕ) → AreMirrors n0 cs ms → length cs ≤ i → client_of n (take i ms) ≡ None → client_of n ms ≡ None
nobody-at-all n0 cs ms n i all past none =
    let len : length cs ≡ length ms = mirrors-length n0 cs ms all in
    let le : length ms ≤ i = omega (arith, past, len) in
    sym (ap (client_of n) (take_all i ms le)) ∙ none

-- the client of a number taken out, where no number stands twice
without-none : (n : ℕ) (ms : List Holder) → client_of n ms ≡ None → without_client n ms ≡ ms
without-none n [] none = refl
without-none n (m ∷ ms) none =
    elim (m.number == n)
    as (λ b. (if b then Some m else client_of n ms) ≡ None → (if b then without_client n ms else m ∷ without_client n ms) ≡ m ∷ ms)
    [ true ↦ λ k. absurd (cc k) | false ↦ λ k. ap (λ r. m ∷ r) (without-none n ms k) ]
    none

absent-none : (n : ℕ) (ms : List Holder) → is_in n (map number_of ms) ≡ false → client_of n ms ≡ None
absent-none n [] e = refl
absent-none n (m ∷ ms) e =
    elim (m.number == n)
    as (λ b. (if b then true else is_in n (map number_of ms)) ≡ false → (if b then Some m else client_of n ms) ≡ None)
    [ true ↦ λ k. absurd (cc k) | false ↦ λ k. absent-none n ms k ]
    e

without-parts : (n : ℕ) (front : List Holder) (m : Holder) (back : List Holder) → m.number ≡ n → client_of n front ≡ None → AreApart (map number_of (front ++ m ∷ back)) → without_client n (front ++ m ∷ back) ≡ front ++ back
without-parts n [] m back same none apart = ap (λ b. if b then without_client n back else m ∷ without_client n back) (eq-eqb m.number n same) ∙ without-none n back (absent-none n back (subst (λ i. is_in i (map number_of back) ≡ false) same apart.0))
without-parts n (f ∷ front) m back same none apart =
    elim (f.number == n)
    as (λ b. (if b then Some f else client_of n front) ≡ None → (if b then without_client n (front ++ m ∷ back) else f ∷ without_client n (front ++ m ∷ back)) ≡ f ∷ (front ++ back))
    [ true ↦ λ k. absurd (cc k) | false ↦ λ k. ap (λ r. f ∷ r) (without-parts n front m back same k apart.1) ]
    none

pub without-at : (n : ℕ) (ms : List Holder) (at : ℕ) → (p : IsHolderAt n ms at) → AreApart (map number_of ms) → without_client n ms ≡ p.front ++ p.back
without-at n ms at p apart = ap (without_client n) p.parts ∙ without-parts n p.front p.here p.back p.number p.first (subst (λ k. AreApart (map number_of k)) p.parts apart)

pub without-nobody : (n : ℕ) (ms : List Holder) → client_of n ms ≡ None → without_client n ms ≡ ms
without-nobody n ms none = without-none n ms none

mirrors-cut : (n0 : Parts) (cs : List Client) (front : List Holder) (m : Holder) (back : List Holder) → AreMirrors n0 cs (front ++ m ∷ back) → AreMirrors n0 (remove cs (length front)) (front ++ back)
mirrors-cut n0 [] [] m back all = absurd all
mirrors-cut n0 [] (f ∷ front) m back all = absurd all
mirrors-cut n0 (y ∷ cs) [] m back all = all.1
mirrors-cut n0 (y ∷ cs) (f ∷ front) m back all = (all.0, mirrors-cut n0 cs front m back all.1)

pub mirrors-removed : (n0 : Parts) (cs : List Client) (ms : List Holder) (n at : ℕ) → AreMirrors n0 cs ms → (p : IsHolderAt n ms at) → AreMirrors n0 (remove cs at) (p.front ++ p.back)
mirrors-removed n0 cs ms n at all p = subst (λ i. AreMirrors n0 (remove cs i) (p.front ++ p.back)) (sym p.place) (mirrors-cut n0 cs p.front p.here p.back (subst (AreMirrors n0 cs) p.parts all))

-- a client was passed that has another number
later-later : (i : ℕ) (o : Option ℕ) → later i (later 1 o) ≡ later (i + 1) o
later-later i None = refl
later-later i (Some k) = let e : i + (1 + k) ≡ (i + 1) + k = omega arith in ap Some e

pub place-passed : (n : ℕ) (cs : List Client) (i : ℕ) (c : Client) → i < length cs → c ≡ get_or cs i c → number_in c ≢ n → later i (place_in n (map number_in (drop i cs))) ≡ later (i + 1) (place_in n (map number_in (drop (i + 1) cs)))
place-passed n cs i c lt is other =
    let rest : Option ℕ = place_in n (map number_in (drop (i + 1) cs)) in
    ap (λ ys. later i (place_in n (map number_in ys))) (drop_more cs i c lt ∙ ap (λ y. y ∷ drop (i + 1) cs) (sym is))
    ∙ (ap (λ b. later i (if b then Some 0 else later 1 rest)) (ne_eqb (number_in c) n other) ∙ later-later i rest)
