-- How the logic keeps a tree: as the list of its nodes, each after its parts.
use Rattle.std.specs.Prelude.{◌≡◌, ℕ, zero, suc, List, [], ◌∷◌, ◌++◌, refl}
use Rattle.std.proofs.Common.{ap, sym, ◌∙◌, append_assoc}
use Rattle.std.specs.Coded.{Coded, code_by, coded×, coded_ℕ, coded_list}
use Rattle.ex_model.specs.declared.ast.Operator.{Operator}
use Rattle.ex_model.specs.declared.ast.Operator.TheVariants.{Add, Subtract, Multiply}
use Rattle.ex_model.specs.Tree.{Tree, Integer, Variable, Match, Binary, Named}

-- an operator as a number, and back
abbrev pub operator_number : Operator → ℕ
operator_number Add = 0
operator_number Subtract = 1
operator_number Multiply = 2

abbrev pub number_operator : ℕ → Operator
number_operator zero = Add
number_operator (suc zero) = Subtract
number_operator (suc (suc n)) = Multiply

operator_back : (o : Operator) → number_operator (operator_number o) ≡ o
operator_back Add = refl
operator_back Subtract = refl
operator_back Multiply = refl

-- the nodes of a tree: a kind, and a number or the bytes of a name
abbrev pub words : Tree → List (ℕ × List ℕ)
words (Integer n) = (0, n ∷ []) ∷ []
words (Variable x) = (1, x) ∷ []
words (Match (Named x) a) = words a ++ (2, x) ∷ []
words (Binary o a b) = words a ++ (words b ++ (3, operator_number o ∷ []) ∷ [])

-- the first number of a word
abbrev pub number_in : List ℕ → ℕ
number_in [] = 0
number_in (n ∷ ns) = n

-- a node put on the trees that are whole so far
abbrev pub put : ℕ → List ℕ → List Tree → List Tree
put zero w s = Integer (number_in w) ∷ s
put (suc zero) w s = Variable w ∷ s
put (suc (suc zero)) w (a ∷ s) = Match (Named w) a ∷ s
put (suc (suc (suc k))) w (b ∷ a ∷ s) = Binary (number_operator (number_in w)) a b ∷ s
put k w s = s

abbrev pub back : List (ℕ × List ℕ) → List Tree → List Tree
back [] s = s
back (w ∷ ws) s = back ws (put w.0 w.1 s)

abbrev pub first_tree : List Tree → Tree
first_tree [] = Integer 0
first_tree (t ∷ s) = t

words_back : (t : Tree) (ws : List (ℕ × List ℕ)) (s : List Tree) → back (words t ++ ws) s ≡ back ws (t ∷ s)
words_back (Integer n) ws s = refl
words_back (Variable x) ws s = refl
words_back (Match (Named x) a) ws s = ap (λ l. back l s) (append_assoc (words a) ((2, x) ∷ []) ws) ∙ words_back a ((2, x) ∷ ws) s
words_back (Binary o a b) ws s =
    let w : ℕ × List ℕ = (3, operator_number o ∷ []) in
    ap (λ l. back l s) (append_assoc (words a) (words b ++ w ∷ []) ws)
    ∙ (words_back a ((words b ++ w ∷ []) ++ ws) s
    ∙ (ap (λ l. back l (a ∷ s)) (append_assoc (words b) (w ∷ []) ws)
    ∙ (words_back b (w ∷ ws) (a ∷ s)
    ∙ ap (λ p. back ws (Binary p a b ∷ s)) (operator_back o))))

append_nil : (ws : List (ℕ × List ℕ)) → ws ++ [] ≡ ws
append_nil [] = refl
append_nil (w ∷ ws) = ap (λ l. w ∷ l) (append_nil ws)

pub tree_back : (t : Tree) → first_tree (back (words t) []) ≡ t
tree_back t = ap (λ l. first_tree (back l [])) (sym (append_nil (words t))) ∙ ap first_tree (words_back t [] [])

-- the code of trees
abbrev pub tree_code : Coded Tree
tree_code = code_by (List (ℕ × List ℕ)) (coded_list (coded× coded_ℕ (coded_list coded_ℕ))) words (λ ws. first_tree (back ws [])) tree_back
