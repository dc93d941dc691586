-- How proofs tell values apart: each as a list of pieces, and what such a list gives back.
use Rattle.std.specs.Prelude.{◌≡◌, ◌⊎◌, ℕ, zero, suc, ℤ, List, [], ◌∷◌, refl}
use Rattle.std.proofs.Common.{ap, ◌∙◌, inl, inr}
use Rattle.std.specs.Coded.{Coded, code_by, coded⊎, coded_ℕ, coded_ℤ, coded_list}
use Rattle.ex_terms.specs.Terms.{Term, Terms, AnInteger, AnAtom, AText, ATuple, AList, NoTerm, OneMore}

-- a piece: a value without parts, the begin of a tuple or a list, or an end
pub data Piece : Type 0 where
  Number : ℤ → Piece
  Atomic : List ℕ → Piece
  Textual : List ℕ → Piece
  TupleBegins : Piece
  ListBegins : Piece
  Ends : Piece

abbrev pub Parted : Type 0
Parted = ℤ ⊎ (List ℕ ⊎ (List ℕ ⊎ ℕ))

abbrev pub parted : Piece → Parted
parted (Number z) = inl z
parted (Atomic t) = inr (inl t)
parted (Textual t) = inr (inr (inl t))
parted TupleBegins = inr (inr (inr 0))
parted ListBegins = inr (inr (inr 1))
parted Ends = inr (inr (inr 2))

abbrev pub sign_of : ℕ → Piece
sign_of zero = TupleBegins
sign_of (suc zero) = ListBegins
sign_of (suc (suc k)) = Ends

abbrev pub piece_of : Parted → Piece
piece_of (inl z) = Number z
piece_of (inr (inl t)) = Atomic t
piece_of (inr (inr (inl t))) = Textual t
piece_of (inr (inr (inr k))) = sign_of k

pub piece-back : (p : Piece) → piece_of (parted p) ≡ p
piece-back (Number z) = refl
piece-back (Atomic t) = refl
piece-back (Textual t) = refl
piece-back TupleBegins = refl
piece-back ListBegins = refl
piece-back Ends = refl

abbrev pub piece_code : Coded Piece
piece_code = code_by Parted (coded⊎ coded_ℤ (coded⊎ (coded_list coded_ℕ) (coded⊎ (coded_list coded_ℕ) coded_ℕ))) parted piece_of piece-back

-- the pieces of values before others: what contains values begins before them, and ends behind them
abbrev mutual
  pub pieces : Term → List Piece → List Piece
  pieces (AnInteger z) rest = Number z ∷ rest
  pieces (AnAtom t) rest = Atomic t ∷ rest
  pieces (AText t) rest = Textual t ∷ rest
  pieces (ATuple ts) rest = TupleBegins ∷ all_pieces ts (Ends ∷ rest)
  pieces (AList ts) rest = ListBegins ∷ all_pieces ts (Ends ∷ rest)

  pub all_pieces : Terms → List Piece → List Piece
  all_pieces NoTerm rest = rest
  all_pieces (OneMore t ts) rest = pieces t (all_pieces ts rest)

-- what is read so far, from the end: the values here, and those behind each end that is open
pub record Heap : Type 0 where
  pub here : Terms
  pub behind : List Terms

abbrev pub put : Term → Heap → Heap
put t h = record { here = OneMore t h.here; behind = h.behind }

abbrev pub put_all : Terms → Heap → Heap
put_all NoTerm h = h
put_all (OneMore t ts) h = put t (put_all ts h)

-- an end opens a heap of its own, a begin closes it
abbrev pub ended : Heap → Heap
ended h = record { here = NoTerm; behind = h.here ∷ h.behind }

abbrev pub closed_over : Term → List Terms → Heap
closed_over t [] = record { here = OneMore t NoTerm; behind = [] }
closed_over t (outer ∷ more) = record { here = OneMore t outer; behind = more }

abbrev pub with_piece : Piece → Heap → Heap
with_piece (Number z) h = put (AnInteger z) h
with_piece (Atomic t) h = put (AnAtom t) h
with_piece (Textual t) h = put (AText t) h
with_piece TupleBegins h = closed_over (ATuple h.here) h.behind
with_piece ListBegins h = closed_over (AList h.here) h.behind
with_piece Ends h = ended h

abbrev pub read : List Piece → Heap
read [] = record { here = NoTerm; behind = [] }
read (p ∷ ps) = with_piece p (read ps)

-- the values of one heap before those of another
abbrev pub joined : Terms → Terms → Terms
joined NoTerm us = us
joined (OneMore t ts) us = OneMore t (joined ts us)

pub joined-none : (ts : Terms) → joined ts NoTerm ≡ ts
joined-none NoTerm = refl
joined-none (OneMore t ts) = ap (OneMore t) (joined-none ts)

pub put-all : (ts : Terms) (h : Heap) → put_all ts h ≡ record { here = joined ts h.here; behind = h.behind }
put-all NoTerm h = refl
put-all (OneMore t ts) h = ap (put t) (put-all ts h)

pub closes : (make : Terms → Term) (ts : Terms) (h : Heap) → (let g : Heap = put_all ts (ended h) in closed_over (make g.here) g.behind) ≡ put (make ts) h
closes make ts h = ap (λ g. closed_over (make g.here) g.behind) (put-all ts (ended h)) ∙ ap (λ us. put (make us) h) (joined-none ts)

mutual
  pub reads : (t : Term) (rest : List Piece) → read (pieces t rest) ≡ put t (read rest)
  reads (AnInteger z) rest = refl
  reads (AnAtom t) rest = refl
  reads (AText t) rest = refl
  reads (ATuple ts) rest = ap (with_piece TupleBegins) (reads-all ts (Ends ∷ rest)) ∙ closes ATuple ts (read rest)
  reads (AList ts) rest = ap (with_piece ListBegins) (reads-all ts (Ends ∷ rest)) ∙ closes AList ts (read rest)

  pub reads-all : (ts : Terms) (rest : List Piece) → read (all_pieces ts rest) ≡ put_all ts (read rest)
  reads-all NoTerm rest = refl
  reads-all (OneMore t ts) rest = reads t (all_pieces ts rest) ∙ ap (put t) (reads-all ts rest)

pub read-back : (ts : Terms) → (read (all_pieces ts [])).here ≡ ts
read-back ts = ap (λ h. h.here) (reads-all ts []) ∙ (ap (λ h. h.here) (put-all ts (read [])) ∙ joined-none ts)

-- values are told apart by their pieces
abbrev pub terms_code : Coded Terms
terms_code = code_by (List Piece) (coded_list piece_code) (λ ts. all_pieces ts []) (λ ps. (read ps).here) read-back
