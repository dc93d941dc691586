-- Worked sources and their trees.
use Rattle.std.proofs.Common.{ℕ, ◌≤◌, [], ◌∷◌, ◌++◌, codes, refl, lit<, lit≤}
use Rattle.ex_model.specs.declared.ast.Operator.TheVariants.{Add, Subtract, Multiply}
use Rattle.ex_model.specs.Tokens.{Number, Name, Sign, Equals, Opening, Closing, Separator}
use Rattle.ex_model.specs.Lexing.{Blank, Newline, Semicolon, Whole, space, feed, semicolon, number, name, equals, opening, closing, none, next}
use Rattle.ex_model.specs.Tree.{Integer, Variable, Match, Binary, Named}
use Rattle.ex_model.specs.Grammar.{Derives, integer, variable, parentheses, binary, match, tighter, named, empty, last, more, plain, begun}
use Rattle.ex_model.specs.Reads.{Reads}

-- an integer where a tighter level is wanted
int : (l n : ℕ) → l ≤ 11 → Derives l (Number n ∷ []) (Integer n)
int l n le = tighter le (integer n)

-- `1 - 2 - 3` is `(1 - 2) - 3`
minus-groups_left : Derives 0 (Number 1 ∷ Sign Subtract ∷ Number 2 ∷ Sign Subtract ∷ Number 3 ∷ []) (Binary Subtract (Binary Subtract (Integer 1) (Integer 2)) (Integer 3))
minus-groups_left = tighter (lit≤ tt) (binary {o = Subtract} {xs = Number 1 ∷ Sign Subtract ∷ Number 2 ∷ []} (binary {o = Subtract} {xs = Number 1 ∷ []} (int 8 1 (lit≤ tt)) (int 9 2 (lit≤ tt))) (int 9 3 (lit≤ tt)))

-- `1 + 2 * 3` is `1 + (2 * 3)`
times-is_tighter : Derives 0 (Number 1 ∷ Sign Add ∷ Number 2 ∷ Sign Multiply ∷ Number 3 ∷ []) (Binary Add (Integer 1) (Binary Multiply (Integer 2) (Integer 3)))
times-is_tighter = tighter (lit≤ tt) (binary {o = Add} {xs = Number 1 ∷ []} (int 8 1 (lit≤ tt)) (binary {o = Multiply} {xs = Number 2 ∷ []} (int 9 2 (lit≤ tt)) (int 10 3 (lit≤ tt))))

-- `x = y = 2` is `x = (y = 2)`
equals-groups_right : Derives 0 (Name (codes "x") ∷ Equals ∷ Name (codes "y") ∷ Equals ∷ Number 2 ∷ []) (Match (Named (codes "x")) (Match (Named (codes "y")) (Integer 2)))
equals-groups_right = match (named (codes "x")) (match (named (codes "y")) (int 0 2 (lit≤ tt)))

-- `(1` LF `)` reads as 1
reads-brackets : Reads (codes "(1" ++ 10 ∷ codes ")") (Integer 1 ∷ [])
reads-brackets = record {
  tokens = Opening ∷ Number 1 ∷ Closing ∷ [];
  lexes = record {
    pieces = Whole Opening ∷ Whole (Number 1) ∷ Newline ∷ Whole Closing ∷ [];
    cut = next opening refl (next (number {d = 49} {ds = []} refl (lit< tt)) refl (next feed refl (next closing tt none)));
    tokens_are = refl;
  };
  nests_within = (lit≤ tt, (lit≤ tt, (lit≤ tt, tt)));
  derives = plain (last (tighter (lit≤ tt) (parentheses {ts = Number 1 ∷ []} (int 0 1 (lit≤ tt)))));
}

-- `x=2;` LF `x` LF reads as two expressions, of which the second is before a separator
reads-two : Reads (codes "x=2;" ++ 10 ∷ codes "x" ++ 10 ∷ []) (Match (Named (codes "x")) (Integer 2) ∷ Variable (codes "x") ∷ [])
reads-two = record {
  tokens = Name (codes "x") ∷ Equals ∷ Number 2 ∷ Separator ∷ Name (codes "x") ∷ Separator ∷ [];
  lexes = record {
    pieces = Whole (Name (codes "x")) ∷ Whole Equals ∷ Whole (Number 2) ∷ Semicolon ∷ Newline ∷ Whole (Name (codes "x")) ∷ Newline ∷ [];
    cut = next (name {x = codes "x"} refl refl) refl (next equals refl (next (number {d = 50} {ds = []} refl (lit< tt)) refl (next semicolon refl (next feed refl (next (name {x = codes "x"} refl refl) refl (next feed tt none))))));
    tokens_are = refl;
  };
  nests_within = (lit≤ tt, (lit≤ tt, (lit≤ tt, (lit≤ tt, (lit≤ tt, (lit≤ tt, tt))))));
  derives = plain (more {ts = Name (codes "x") ∷ Equals ∷ Number 2 ∷ []} (match (named (codes "x")) (int 0 2 (lit≤ tt))) (more {ts = Name (codes "x") ∷ []} (tighter (lit≤ tt) (variable (codes "x"))) empty));
}

-- a source of blanks has no expression, and one of separators
reads-blank : Reads (codes " ") []
reads-blank = record {
  tokens = [];
  lexes = record { pieces = Blank ∷ []; cut = next space tt none; tokens_are = refl };
  nests_within = tt;
  derives = plain empty;
}

reads-separators : Reads (codes "; ;") []
reads-separators = record {
  tokens = Separator ∷ [];
  lexes = record { pieces = Semicolon ∷ Blank ∷ Semicolon ∷ []; cut = next semicolon refl (next space refl (next semicolon tt none)); tokens_are = refl };
  nests_within = (lit≤ tt, tt);
  derives = begun empty;
}
