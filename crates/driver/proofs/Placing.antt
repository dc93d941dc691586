-- The clients in memory, one by one.
use Rattle.std.proofs.Common.{◌≡◌, ℕ, ◌<◌, ◌+◌, ◌==◌, suc, Bool, true, false, if◌then◌else◌, List, [], ◌∷◌, ◌++◌, length, map, Option, Some, None, refl, sym, ap, subst, ◌∙◌, arith}
use Rattle.std.specs.Prelude.{remove}
use Rattle.std.proofs.lemmas.Bool.{eqb-true, eq-eqb}
use Rattle.std.proofs.lemmas.List.{length-map}
use Rattle.notebook.specs.declared.parts.Parts.{Parts}
use Rattle.session_ops.specs.Numbers.{is_in}
use Rattle.client_sync.specs.Client.{Client as Holder, client_of, put_client, without_client}
use Rattle.client_sync.specs.Stands.{Mirrors, number_in}
use Rattle.client_sync.specs.declared.client.Client.{Client}
use Rattle.world.specs.Claims.{number_of}
use Rattle.world.specs.Sound.{AreApart}
use Rattle.driver.specs.Clients.{AreMirrors, IsAt, IsPlace, later, place_in}

pub mirrored-append : (n0 : Parts) (xs : List Client) (cs : List Holder) (x : Client) (c : Holder) → AreMirrors n0 xs cs → Mirrors n0 x c → AreMirrors n0 (xs ++ x ∷ []) (cs ++ c ∷ [])
mirrored-append n0 [] [] x c m y = (y, tt)
mirrored-append n0 [] (d ∷ cs) x c m y = absurd m
mirrored-append n0 (z ∷ xs) [] x c m y = absurd m
mirrored-append n0 (z ∷ xs) (d ∷ cs) x c m y = (m.0, mirrored-append n0 xs cs x c m.1 y)

-- a number that isn't among the others'
absent-put : (n : ℕ) (c : Holder) (cs : List Holder) → c.number ≡ n → is_in n (map number_of cs) ≡ false → put_client c cs ≡ cs
absent-put n c [] e a = refl
absent-put n c (d ∷ cs) e a =
    elim (d.number == n)
    as (λ b. (d.number == n) ≡ b → (if b then true else is_in n (map number_of cs)) ≡ false → (if d.number == c.number then c else d) ∷ put_client c cs ≡ d ∷ cs) [
      | true ↦ λ t k. absurd (cc k)
      | false ↦ λ t k.
          let other : (d.number == c.number) ≡ false = ap (λ m. d.number == m) e ∙ t in
          ap (λ b. (if b then c else d) ∷ put_client c cs) other ∙ ap (λ ds. d ∷ ds) (absent-put n c cs e k)
    ]
    refl
    a

absent-out : (n : ℕ) (cs : List Holder) → is_in n (map number_of cs) ≡ false → without_client n cs ≡ cs
absent-out n [] a = refl
absent-out n (d ∷ cs) a =
    elim (d.number == n)
    as (λ b. (if b then true else is_in n (map number_of cs)) ≡ false → (if b then without_client n cs else d ∷ without_client n cs) ≡ d ∷ cs)
    [ true ↦ λ k. absurd (cc k) | false ↦ λ k. ap (λ ds. d ∷ ds) (absent-out n cs k) ]
    a

-- the first client has the number
at-first : (n0 : Parts) (x : Client) (xs : List Client) (c : Holder) (cs : List Holder) (n : ℕ) → Mirrors n0 x c → AreMirrors n0 xs cs → is_in c.number (map number_of cs) ≡ false → c.number ≡ n → IsAt n0 (x ∷ xs) (c ∷ cs) n 0
at-first n0 x xs c cs n m all a e =
    record {
      own = c;
      there = ap (λ b. if b then Some c else client_of n cs) (eq-eqb c.number n e);
      number = e;
      inside = omega arith;
      mirrors = λ y is. subst (λ z. Mirrors n0 z c) (sym is) m;
      kept = λ y h. (h, all);
      replaced = λ y d number h.
          let here : (c.number == d.number) ≡ true = eq-eqb c.number d.number (e ∙ sym number) in
          let rest : put_client d cs ≡ cs = absent-put n d cs number (subst (λ k. is_in k (map number_of cs) ≡ false) e a) in (
            subst (Mirrors n0 y) (sym (ap (λ b. if b then d else c) here)) h,
            subst (AreMirrors n0 xs) (sym rest) all,
          );
      removed =
          let here : (c.number == n) ≡ true = eq-eqb c.number n e in
          let rest : without_client n cs ≡ cs = absent-out n cs (subst (λ k. is_in k (map number_of cs) ≡ false) e a) in
          subst (AreMirrors n0 xs) (sym (ap (λ b. if b then without_client n cs else c ∷ without_client n cs) here ∙ rest)) all;
    }

-- another has it, after the first
at-later : (n0 : Parts) (x : Client) (xs : List Client) (c : Holder) (cs : List Holder) (n at : ℕ) → Mirrors n0 x c → (c.number == n) ≡ false → IsAt n0 xs cs n at → IsAt n0 (x ∷ xs) (c ∷ cs) n (suc at)
at-later n0 x xs c cs n at m e is =
    record {
      own = is.own;
      there = ap (λ b. if b then Some c else client_of n cs) e ∙ is.there;
      number = is.number;
      inside = omega (arith, is.inside);
      mirrors = λ y h. is.mirrors y h;
      kept = λ y h. (m, is.kept y h);
      replaced = λ y d number h.
          let other : (c.number == d.number) ≡ false = ap (λ k. c.number == k) number ∙ e in
          (subst (Mirrors n0 x) (sym (ap (λ b. if b then d else c) other)) m, is.replaced y d number h);
      removed = subst (AreMirrors n0 (x ∷ remove xs at)) (sym (ap (λ b. if b then without_client n cs else c ∷ without_client n cs) e)) (m, is.removed);
    }

-- the numbers in memory
pub mirrored-numbers : (n0 : Parts) (xs : List Client) (cs : List Holder) → AreMirrors n0 xs cs → map number_in xs ≡ map number_of cs
mirrored-numbers n0 [] [] m = refl
mirrored-numbers n0 [] (c ∷ cs) m = absurd m
mirrored-numbers n0 (x ∷ xs) [] m = absurd m
mirrored-numbers n0 (x ∷ xs) (c ∷ cs) m = let y : Mirrors n0 x c = m.0 in rw (y.number, mirrored-numbers n0 xs cs m.1) refl

place-later : (n0 : Parts) (x : Client) (xs : List Client) (c : Holder) (cs : List Holder) (n : ℕ) (o : Option ℕ) → Mirrors n0 x c → (c.number == n) ≡ false → IsPlace n0 xs cs n o → IsPlace n0 (x ∷ xs) (c ∷ cs) n (later 1 o)
place-later n0 x xs c cs n None m e is = ap (λ b. if b then Some c else client_of n cs) e ∙ is
place-later n0 x xs c cs n (Some at) m e is = let one : 1 + at ≡ suc at = omega arith in subst (IsAt n0 (x ∷ xs) (c ∷ cs) n) (sym one) (at-later n0 x xs c cs n at m e is)

-- the first place of a number is that of its client
place-of-numbers : (n0 : Parts) (xs : List Client) (cs : List Holder) (n : ℕ) → AreMirrors n0 xs cs → AreApart (map number_of cs) → IsPlace n0 xs cs n (place_in n (map number_of cs))
place-of-numbers n0 [] [] n m a = refl
place-of-numbers n0 [] (c ∷ cs) n m a = absurd m
place-of-numbers n0 (x ∷ xs) [] n m a = absurd m
place-of-numbers n0 (x ∷ xs) (c ∷ cs) n m a =
    elim (c.number == n)
    as (λ b. (c.number == n) ≡ b → IsPlace n0 (x ∷ xs) (c ∷ cs) n (if b then Some 0 else later 1 (place_in n (map number_of cs)))) [
      | true ↦ λ t. at-first n0 x xs c cs n m.0 m.1 a.0 (eqb-true c.number n t)
      | false ↦ λ t. place-later n0 x xs c cs n (place_in n (map number_of cs)) m.0 t (place-of-numbers n0 xs cs n m.1 a.1)
    ]
    refl

pub placed : (n0 : Parts) (xs : List Client) (cs : List Holder) (n : ℕ) (o : Option ℕ) → AreMirrors n0 xs cs → AreApart (map number_of cs) → o ≡ place_in n (map number_in xs) → IsPlace n0 xs cs n o
placed n0 xs cs n o m a e = subst (IsPlace n0 xs cs n) (sym (e ∙ ap (place_in n) (mirrored-numbers n0 xs cs m))) (place-of-numbers n0 xs cs n m a)

within-of : (m : ℕ) (ms : List ℕ) (b : Bool) (o : Option ℕ) (at : ℕ) → ((k : ℕ) → Some k ≡ o → k < length ms) → Some at ≡ (if b then Some 0 else later 1 o) → at < length (m ∷ ms)
within-of m ms true o at h e = let z : at ≡ 0 = cc e in omega (arith, z)
within-of m ms false None at h e = absurd (cc e)
within-of m ms false (Some k) at h e = let z : at ≡ 1 + k = cc e in let y : k < length ms = h k refl in omega (arith, z, y)

place-within : (n : ℕ) (ms : List ℕ) (at : ℕ) → Some at ≡ place_in n ms → at < length ms
place-within n [] at e = absurd (cc e)
place-within n (m ∷ ms) at e = within-of m ms (m == n) (place_in n ms) at (place-within n ms) e

-- a place is within the clients
pub within : (n : ℕ) (xs ys : List Client) (len at : ℕ) (o : Option ℕ) → o ≡ place_in n (map number_in xs) → o ≡ Some at → xs ≡ ys → length xs ≡ len → at < len
within n xs ys len at o e is same size = let r : at < length (map number_in xs) = place-within n (map number_in xs) at (sym is ∙ e) in let m : length (map number_in xs) ≡ length xs = length-map xs number_in in omega (arith, r, m, size)

-- without the client of a number
absent-here : (n : ℕ) (cs : List Holder) → client_of n cs ≡ None → is_in n (map number_of cs) ≡ false
absent-here n [] e = refl
absent-here n (d ∷ cs) e =
    elim (d.number == n)
    as (λ b. (if b then Some d else client_of n cs) ≡ None → (if b then true else is_in n (map number_of cs)) ≡ false)
    [ true ↦ λ k. absurd (cc k) | false ↦ λ k. absent-here n cs k ]
    e

pub mirrored-without : (n0 : Parts) (xs : List Client) (cs : List Holder) (n : ℕ) → AreMirrors n0 xs cs → client_of n cs ≡ None → AreMirrors n0 xs (without_client n cs)
mirrored-without n0 xs cs n m e = subst (AreMirrors n0 xs) (sym (absent-out n cs (absent-here n cs e))) m

-- who is gone leaves the others apart
out-stays : (m n : ℕ) (cs : List Holder) → is_in m (map number_of cs) ≡ false → is_in m (map number_of (without_client n cs)) ≡ false
out-stays m n [] e = refl
out-stays m n (d ∷ cs) e =
    elim (d.number == m)
    as (λ b. (d.number == m) ≡ b → (if b then true else is_in m (map number_of cs)) ≡ false → is_in m (map number_of (if d.number == n then without_client n cs else d ∷ without_client n cs)) ≡ false) [
      | true ↦ λ t k. absurd (cc k)
      | false ↦ λ t k.
          elim (d.number == n)
          as (λ b. is_in m (map number_of (if b then without_client n cs else d ∷ without_client n cs)) ≡ false)
          [ true ↦ out-stays m n cs k | false ↦ ap (λ b. if b then true else is_in m (map number_of (without_client n cs))) t ∙ out-stays m n cs k ]
    ]
    refl
    e

pub apart-without : (n : ℕ) (cs : List Holder) → AreApart (map number_of cs) → AreApart (map number_of (without_client n cs))
apart-without n [] a = tt
apart-without n (d ∷ cs) a =
    elim (d.number == n)
    as (λ b. AreApart (map number_of (if b then without_client n cs else d ∷ without_client n cs)))
    [ true ↦ apart-without n cs a.1 | false ↦ (out-stays d.number n cs a.0, apart-without n cs a.1) ]
