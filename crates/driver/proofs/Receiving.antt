-- Clients that receive some of the history.
use Rattle.std.proofs.Common.{◌≡◌, ℕ, ◌<◌, ◌≤◌, ◌+◌, ◌==◌, zero, suc, Bool, true, false, not, List, [], ◌∷◌, ◌++◌, length, map, take, drop, get_or, refl, sym, ap, subst, ◌∙◌, arith, append_assoc}
use Rattle.std.specs.Prelude.{slice_set, ◌&&◌}
use Rattle.std.proofs.lemmas.Bool.Decides.{nat_tests}
use Rattle.std.specs.List.{AllByRecursion}
use Rattle.std.proofs.lemmas.List.{append-nil, take_all, drop_all, drop_more}
use Rattle.notebook.specs.declared.parts.Parts.{Parts}
use Rattle.session_ops.specs.declared.entry.Entry.{Entry}
use Rattle.client_sync.specs.Client.{Client as Holder, delivered, received, received_entry}
use Rattle.client_sync.specs.Stands.{Mirrors, IsNextEntry}
use Rattle.client_sync.specs.declared.client.Client.{Client}
use Rattle.world.specs.Claims.{IsBehind, IsWhole, HasJoined, number_of}
use Rattle.world.specs.Waiting.{IsHonest, AreHonest}
use Rattle.world.proofs.Clients.{received-seen, call-number}
use Rattle.world.proofs.Standing.{rest-after}
use Rattle.world.proofs.Honest.{entry-honest, honest-joined}
use Rattle.world.proofs.Next.{next-entry}
use Rattle.driver.specs.Player.{Game, unseen, receive_all, all_sent}
use Rattle.driver.specs.Clients.{AreMirrors, HasReceived, IsLawful}
use Rattle.driver.specs.Standing.{world_of}

-- what a client has not received is what comes later
pub unseen-later : (n0 : Parts) (h : List Entry) (c : Holder) → (is : IsHonest n0 h c) → unseen c h ≡ is.later
unseen-later n0 h c is = ap (drop (length c.seen)) is.behind ∙ rest-after c.seen is.later

-- some entries, and then one more
pub received-append : (n0 : Parts) (c : Holder) (xs ys : List Entry) → received n0 c (xs ++ ys) ≡ received n0 (received n0 c xs) ys
received-append n0 c [] ys = refl
received-append n0 c (x ∷ xs) ys = received-append n0 (received_entry n0 c x) xs ys

-- a client that has received some of what comes later stands as it should
record HasLater (n0 : Parts) (h : List Entry) (c : Holder) (rest : List Entry) : Type 0 where
  pub honest : IsHonest n0 h c
  pub later : honest.later ≡ rest

-- what comes later still, once one more was received
later-after : (n0 : Parts) (h : List Entry) (c : Holder) (e : Entry) (es : List Entry) → (is : IsHonest n0 h c) → is.later ≡ e ∷ es → (now : IsHonest n0 h (received_entry n0 c e)) → now.later ≡ es
later-after n0 h c e es is more now =
    let grown : h ≡ (c.seen ++ e ∷ []) ++ es = is.behind ∙ (ap (λ k. c.seen ++ k) more ∙ sym (append_assoc c.seen (e ∷ []) es)) in
    sym (unseen-later n0 h (received_entry n0 c e) now) ∙ (ap (λ k. drop (length k) h) (received-seen n0 c e) ∙ (ap (drop (length (c.seen ++ e ∷ []))) grown ∙ rest-after (c.seen ++ e ∷ []) es))

some-received : (n0 : Parts) (h : List Entry) (c : Holder) (xs rest : List Entry) → IsLawful n0 h → HasLater n0 h c (xs ++ rest) → HasLater n0 h (received n0 c xs) rest
some-received n0 h c [] rest l is = is
some-received n0 h c (x ∷ xs) rest l is = some-received n0 h (received_entry n0 c x) xs rest l (let now : IsHonest n0 h (received_entry n0 c x) = entry-honest n0 h c x (xs ++ rest) l.notebook l.legal is.honest is.later in record { honest = now; later = later-after n0 h c x (xs ++ rest) is.honest is.later now })

pub entry-number : (n0 : Parts) (c : Holder) (e : Entry) → (received_entry n0 c e).number ≡ c.number
entry-number n0 c e = call-number (delivered n0 c) (record c { seen = c.seen ++ e ∷ [] }) e.call e.reply

pub received-number : (n0 : Parts) (c : Holder) (xs : List Entry) → (received n0 c xs).number ≡ c.number
received-number n0 c [] = refl
received-number n0 c (x ∷ xs) = received-number n0 (received_entry n0 c x) xs ∙ entry-number n0 c x

take-split : (n : ℕ) (xs : List Entry) → take n xs ++ drop n xs ≡ xs
take-split zero xs = refl
take-split (suc n) [] = refl
take-split (suc n) (x ∷ xs) = ap (λ ys. x ∷ ys) (take-split n xs)

-- so many of them
pub many-honest : (n0 : Parts) (h : List Entry) (c : Holder) (many : ℕ) → IsLawful n0 h → IsHonest n0 h c → IsHonest n0 h (received n0 c (take many (unseen c h)))
many-honest n0 h c many l is =
    let all : is.later ≡ take many (unseen c h) ++ drop many (unseen c h) = sym (unseen-later n0 h c is) ∙ sym (take-split many (unseen c h)) in
    (some-received n0 h c (take many (unseen c h)) (drop many (unseen c h)) l (record { honest = is; later = all })).honest

-- the client that has received so many
abbrev pub now-received : Parts → List Entry → ℕ → Holder → Holder
now-received n0 h many m = received n0 m (take many (unseen m h))

-- what is left then
pub many-left : (n0 : Parts) (h : List Entry) (c : Holder) (many : ℕ) → IsLawful n0 h → IsHonest n0 h c → unseen (received n0 c (take many (unseen c h))) h ≡ drop many (unseen c h)
many-left n0 h c many l is =
    let all : is.later ≡ take many (unseen c h) ++ drop many (unseen c h) = sym (unseen-later n0 h c is) ∙ sym (take-split many (unseen c h)) in
    let x : HasLater n0 h (received n0 c (take many (unseen c h))) (drop many (unseen c h)) = some-received n0 h c (take many (unseen c h)) (drop many (unseen c h)) l (record { honest = is; later = all }) in
    unseen-later n0 h (received n0 c (take many (unseen c h))) x.honest ∙ x.later

pub all-honest : (n0 : Parts) (h : List Entry) (c : Holder) → IsLawful n0 h → IsHonest n0 h c → IsHonest n0 h (received n0 c (unseen c h))
all-honest n0 h c l is = (some-received n0 h c (unseen c h) [] l (record { honest = is; later = sym (unseen-later n0 h c is) ∙ sym (append-nil (unseen c h)) })).honest

-- all clients receive all
pub each-honest : (g : Game) (h : List Entry) (cs : List Holder) → IsLawful g.opening h → AllByRecursion (IsHonest g.opening h) cs → AllByRecursion (IsHonest g.opening h) (receive_all g h cs)
each-honest g h [] l all = tt
each-honest g h (c ∷ cs) l all = (all-honest g.opening h c l all.0, each-honest g h cs l all.1)

pub each-number : (g : Game) (h : List Entry) (cs : List Holder) → map number_of (receive_all g h cs) ≡ map number_of cs
each-number g h [] = refl
each-number g h (c ∷ cs) = rw (received-number g.opening c (unseen c h), each-number g h cs) refl

pub behind-all : (n0 : Parts) (h : List Entry) (cs : List Holder) → AllByRecursion (IsHonest n0 h) cs → AllByRecursion (IsBehind h) cs
behind-all n0 h [] all = tt
behind-all n0 h (c ∷ cs) all = let is : IsHonest n0 h c = all.0 in ((is.later, is.behind), behind-all n0 h cs all.1)

joined-all : (n0 : Parts) (h : List Entry) (cs : List Holder) → AllByRecursion (IsHonest n0 h) cs → AllByRecursion (HasJoined n0 h) cs
joined-all n0 h [] all = tt
joined-all n0 h (c ∷ cs) all = (honest-joined n0 h c all.0, joined-all n0 h cs all.1)

pub each-whole : (g : Game) (h : List Entry) (cs : List Holder) → IsWhole (world_of g.opening h cs) → AreHonest (world_of g.opening h cs) → IsWhole (world_of g.opening h (receive_all g h cs))
each-whole g h cs whole honest =
    let l : IsLawful g.opening h = record { notebook = whole.notebook; legal = whole.legal } in
    let all : AllByRecursion (IsHonest g.opening h) (receive_all g h cs) = each-honest g h cs l honest in
    record { legal = whole.legal; notebook = whole.notebook; joined = joined-all g.opening h (receive_all g h cs) all; behind = behind-all g.opening h (receive_all g h cs) all }

some-left : (e : Entry) (es : List Entry) → true ≡ not (length (e ∷ es) == 0)
some-left e es = grind (arith, nat_tests)

-- the entry past the cursor was received
pub next-some : (n0 : Parts) (h : List Entry) (m : Holder) (x y : Client) (at : ℕ) (e : Entry) → IsLawful n0 h → IsHonest n0 h m → at ≡ length m.seen → at < length h → e ≡ get_or h at e → Mirrors n0 x m → (IsNextEntry n0 m e → Mirrors n0 y (received_entry n0 m e)) → HasReceived n0 h 1 m y × (true ≡ not (length (unseen m h) == 0))
next-some n0 h m x y at e l is place lt some mir f =
    let here : drop at h ≡ e ∷ drop (at + 1) h = drop_more h at e lt ∙ ap (λ k. k ∷ drop (at + 1) h) (sym some) in
    let left : unseen m h ≡ e ∷ drop (at + 1) h = ap (λ k. drop k h) (sym place) ∙ here in
    let next : IsNextEntry n0 m e = next-entry n0 h m l.legal is e (drop (at + 1) h) (sym (unseen-later n0 h m is) ∙ left) in
    (subst (λ es. Mirrors n0 y (received n0 m (take 1 es))) (sym left) (f next), some-left e (drop (at + 1) h) ∙ ap (λ es. not (length es == 0)) (sym left))

-- so many, and then one more
take-one : (n : ℕ) (xs : List Entry) → take n xs ++ take 1 (drop n xs) ≡ take (suc n) xs
take-one zero [] = refl
take-one zero (x ∷ xs) = refl
take-one (suc n) [] = refl
take-one (suc n) (x ∷ xs) = ap (λ ys. x ∷ ys) (take-one n xs)

pub one-more : (n0 : Parts) (h : List Entry) (m : Holder) (many : ℕ) (x : Client) → IsLawful n0 h → IsHonest n0 h m → HasReceived n0 h 1 (received n0 m (take many (unseen m h))) x → HasReceived n0 h (many + 1) m x
one-more n0 h m many x l is y =
    let c : Holder = received n0 m (take many (unseen m h)) in
    let same : received n0 c (take 1 (unseen c h)) ≡ received n0 m (take (many + 1) (unseen m h)) =
    let one : suc many ≡ many + 1 = omega arith in
    ap (λ es. received n0 c (take 1 es)) (many-left n0 h m many l is)
    ∙ (sym (received-append n0 m (take many (unseen m h)) (take 1 (drop many (unseen m h)))) ∙ (ap (received n0 m) (take-one many (unseen m h)) ∙ ap (λ k. received n0 m (take k (unseen m h))) one)) in
    subst (Mirrors n0 x) same y

empty-of : (xs : List Entry) → false ≡ not (length xs == 0) → xs ≡ []
empty-of [] e = refl
empty-of (x ∷ xs) e = let k : false ≡ true = e ∙ sym (some-left x xs) in absurd (cc k)

take-past : (n k : ℕ) (xs : List Entry) → n ≤ k → drop n xs ≡ [] → take n xs ≡ take k xs
take-past n zero xs le e = let z : n ≡ 0 = omega (arith, le) in ap (λ i. take i xs) z
take-past zero (suc k) [] le e = refl
take-past zero (suc k) (x ∷ xs) le e = absurd (cc e)
take-past (suc n) (suc k) [] le e = refl
take-past (suc n) (suc k) (x ∷ xs) le e = ap (λ ys. x ∷ ys) (take-past n k xs (omega (arith, le)) e)

unseen-short : (n : ℕ) (xs : List Entry) → length (drop n xs) ≤ length xs
unseen-short zero xs = omega arith
unseen-short (suc n) [] = omega arith
unseen-short (suc n) (x ∷ xs) = let r : length (drop n xs) ≤ length xs = unseen-short n xs in omega (arith, r)

-- nothing more is left
pub no-more : (n0 : Parts) (h : List Entry) (m : Holder) (many more : ℕ) (x : Client) → IsLawful n0 h → IsHonest n0 h m → many ≤ more → false ≡ not (length (unseen (received n0 m (take many (unseen m h))) h) == 0) → HasReceived n0 h 1 (received n0 m (take many (unseen m h))) x → HasReceived n0 h more m x
no-more n0 h m many more x l is le none y =
    let left : drop many (unseen m h) ≡ [] = empty-of (drop many (unseen m h)) (none ∙ ap (λ es. not (length es == 0)) (many-left n0 h m many l is)) in
    let c : Holder = received n0 m (take many (unseen m h)) in
    let still : received n0 c (take 1 (unseen c h)) ≡ c = ap (λ es. received n0 c (take 1 es)) (many-left n0 h m many l is ∙ left) in
    subst (λ es. Mirrors n0 x (received n0 m es)) (take-past many more (unseen m h) le left) (subst (Mirrors n0 x) still y)

-- all, where so many as there are entries
pub all-many : (h : List Entry) (m : Holder) → take (length h) (unseen m h) ≡ unseen m h
all-many h m = take_all (length h) (unseen m h) (unseen-short (length m.seen) h)

-- the first so many clients have received all
abbrev pub first_received : ℕ → Game → List Entry → List Holder → List Holder
first_received zero g h cs = cs
first_received (suc i) g h [] = []
first_received (suc i) g h (c ∷ cs) = received g.opening c (unseen c h) ∷ first_received i g h cs

pub first-all : (g : Game) (h : List Entry) (xs : List Client) (cs : List Holder) (i : ℕ) → AreMirrors g.opening xs (first_received i g h cs) → length xs ≤ i → AreMirrors g.opening xs (receive_all g h cs)
first-all g h [] [] zero m le = tt
first-all g h [] (c ∷ cs) zero m le = absurd m
first-all g h (x ∷ xs) cs zero m le = absurd (omega (arith, le))
first-all g h [] [] (suc i) m le = tt
first-all g h [] (c ∷ cs) (suc i) m le = absurd m
first-all g h (x ∷ xs) [] (suc i) m le = absurd m
first-all g h (x ∷ xs) (c ∷ cs) (suc i) m le = (m.0, first-all g h xs cs i m.1 (omega (arith, le)))

-- the client at a place that has not received anything yet
pub record IsNextOf (g : Game) (h : List Entry) (xs : List Client) (cs : List Holder) (i : ℕ) : Type 0 where
  pub own : Holder
  pub honest : IsHonest g.opening h own
  pub mirrors : (x : Client) → x ≡ get_or xs i x → Mirrors g.opening x own
  pub put : (y : Client) → Mirrors g.opening y (received g.opening own (unseen own h)) → AreMirrors g.opening (slice_set xs i y) (first_received (suc i) g h cs)

next-later : (g : Game) (h : List Entry) (x : Client) (xs : List Client) (c : Holder) (cs : List Holder) (i : ℕ) → Mirrors g.opening x (received g.opening c (unseen c h)) → IsNextOf g h xs cs i → IsNextOf g h (x ∷ xs) (c ∷ cs) (suc i)
next-later g h x xs c cs i m n = record { own = n.own; honest = n.honest; mirrors = λ y e. n.mirrors y e; put = λ y e. (m, n.put y e) }

pub next-of : (g : Game) (h : List Entry) (xs : List Client) (cs : List Holder) (i : ℕ) → i < length xs → AllByRecursion (IsHonest g.opening h) cs → AreMirrors g.opening xs (first_received i g h cs) → IsNextOf g h xs cs i
next-of g h [] cs i lt all m = absurd (omega (arith, lt))
next-of g h (x ∷ xs) [] zero lt all m = absurd m
next-of g h (x ∷ xs) (c ∷ cs) zero lt all m = record { own = c; honest = all.0; mirrors = λ y e. subst (λ z. Mirrors g.opening z c) (sym e) m.0; put = λ y e. (e, m.1) }
next-of g h (x ∷ xs) [] (suc i) lt all m = absurd m
next-of g h (x ∷ xs) (c ∷ cs) (suc i) lt all m = next-later g h x xs c cs i m.0 (next-of g h xs cs i (omega (arith, lt)) all.1 m.1)

-- so many as there are entries are all
pub received-all : (g : Game) (h : List Entry) (m : Holder) (x : Client) → HasReceived g.opening h (length h) m x → Mirrors g.opening x (received g.opening m (unseen m h))
received-all g h m x is = subst (λ es. Mirrors g.opening x (received g.opening m es)) (all-many h m) is

pub put-next : (g : Game) (h : List Entry) (xs : List Client) (cs : List Holder) (i : ℕ) (y : Client) → (n : IsNextOf g h xs cs i) → Mirrors g.opening y (received g.opening n.own (unseen n.own h)) → AreMirrors g.opening (slice_set xs i y) (first_received (i + 1) g h cs)
put-next g h xs cs i y n m = let one : suc i ≡ i + 1 = omega arith in subst (λ k. AreMirrors g.opening (slice_set xs i y) (first_received k g h cs)) one (n.put y m)

-- a client at a place, and the one that it stands for
pub record HasOwnAt (n0 : Parts) (xs : List Client) (cs : List Holder) (i : ℕ) : Type 0 where
  pub own : Holder
  pub front : drop i cs ≡ own ∷ drop (suc i) cs
  pub mirrors : (x : Client) → x ≡ get_or xs i x → Mirrors n0 x own

own-later : (n0 : Parts) (x : Client) (xs : List Client) (c : Holder) (cs : List Holder) (i : ℕ) → HasOwnAt n0 xs cs i → HasOwnAt n0 (x ∷ xs) (c ∷ cs) (suc i)
own-later n0 x xs c cs i o = record { own = o.own; front = o.front; mirrors = λ y e. o.mirrors y e }

pub own-at : (n0 : Parts) (xs : List Client) (cs : List Holder) (i : ℕ) → i < length xs → AreMirrors n0 xs cs → HasOwnAt n0 xs cs i
own-at n0 [] cs i lt m = absurd (omega (arith, lt))
own-at n0 (x ∷ xs) [] i lt m = absurd m
own-at n0 (x ∷ xs) (c ∷ cs) zero lt m = record { own = c; front = refl; mirrors = λ y e. subst (λ z. Mirrors n0 z c) (sym e) m.0 }
own-at n0 (x ∷ xs) (c ∷ cs) (suc i) lt m = own-later n0 x xs c cs i (own-at n0 xs cs i (omega (arith, lt)) m.1)

pub mirrored-length : (n0 : Parts) (xs : List Client) (cs : List Holder) → AreMirrors n0 xs cs → length xs ≡ length cs
mirrored-length n0 [] [] m = refl
mirrored-length n0 [] (c ∷ cs) m = absurd m
mirrored-length n0 (x ∷ xs) [] m = absurd m
mirrored-length n0 (x ∷ xs) (c ∷ cs) m = ap suc (mirrored-length n0 xs cs m.1)

-- whether all was sent, from a place on
waits-at : (b c : Bool) → b ≡ false → false ≡ (b && c)
waits-at false c e = refl
waits-at true c e = absurd (cc e)

pub sent-not : (n0 : Parts) (xs : List Client) (cs : List Holder) (i len : ℕ) (x : Client) → i < length xs → AreMirrors n0 xs cs → x ≡ get_or xs i x → ((m : Holder) → Mirrors n0 x m → len ≡ length m.outbox) → (len ≡ 0 → ⊥) → all_sent cs ≡ all_sent (drop i cs) → false ≡ all_sent cs
sent-not n0 xs cs i len x lt m is f some so_far =
    let o : HasOwnAt n0 xs cs i = own-at n0 xs cs i lt m in
    let e : len ≡ length o.own.outbox = f o.own (o.mirrors x is) in
    let waits : (length o.own.outbox == 0) ≡ false = grind (arith, nat_tests, e, some) in
    waits-at (length o.own.outbox == 0) (all_sent (drop (suc i) cs)) waits ∙ sym (so_far ∙ ap all_sent o.front)

none-at : (b c : Bool) → b ≡ true → (b && c) ≡ c
none-at true c e = refl
none-at false c e = absurd (cc e)

pub sent-more : (n0 : Parts) (xs : List Client) (cs : List Holder) (i len : ℕ) (x : Client) → i < length xs → AreMirrors n0 xs cs → x ≡ get_or xs i x → ((m : Holder) → Mirrors n0 x m → len ≡ length m.outbox) → len ≡ 0 → all_sent cs ≡ all_sent (drop i cs) → all_sent cs ≡ all_sent (drop (i + 1) cs)
sent-more n0 xs cs i len x lt m is f none so_far =
    let o : HasOwnAt n0 xs cs i = own-at n0 xs cs i lt m in
    let e : len ≡ length o.own.outbox = f o.own (o.mirrors x is) in
    let empty : (length o.own.outbox == 0) ≡ true = grind (arith, nat_tests, e, none) in
    let one : suc i ≡ i + 1 = omega arith in
    so_far ∙ (ap all_sent o.front ∙ (none-at (length o.own.outbox == 0) (all_sent (drop (suc i) cs)) empty ∙ ap (λ k. all_sent (drop k cs)) one))

pub sent-end : (n0 : Parts) (xs : List Client) (cs : List Holder) (i : ℕ) → length xs ≤ i → AreMirrors n0 xs cs → all_sent cs ≡ all_sent (drop i cs) → true ≡ all_sent cs
sent-end n0 xs cs i le m so_far = let e : length xs ≡ length cs = mirrored-length n0 xs cs m in sym (so_far ∙ ap all_sent (drop_all i cs (omega (arith, e, le))))
