use Rattle.std.proofs.Common.{subst, ◌∷◌}
use Rattle.ex_grammar.specs.Trees.{NoTree, Clause, Choice}
use Rattle.ex_parser.specs.Machine.{Want, Body, InClause, InChoice, onto}
use Rattle.ex_parser.specs.Shown.{TreeShows, PatternShows, is_clause, is_choice}
use Rattle.ex_parser.proofs.Turns.{no_tree, a_tree, no_pattern, a_pattern}
use Rattle.ex_parser.proofs.BlockTurns.{not_empty, next_in_clause, next_in_choice, clause_more, choice_more}
use Rattle.ex_parser.proofs.parser.Parser.next_clause.Goals as goal

pub returns-in_default-pattern_of : goal.returns-in_default-pattern_of
returns-in_default-pattern_of c = λ b xs j l all rest s v k i r.
    next_in_clause xs v s rest j c.in-Clause.is (not_empty c.args.body c.is_empty.ensures c.if-is_empty.false) l
    (λ t ks p h d q. no_pattern _ _ all v.pattern _ (subst (λ o. PatternShows c.args.self.now.nodes.items o v.pattern) c.in_default-pattern_of.is (c.pattern_of.ensures _ v i)))

pub returns-in-Clause : goal.returns-in-Clause
returns-in-Clause c = λ b xs j l all rest s v k i r.
    next_in_clause xs v s rest j c.in-Clause.is (not_empty c.args.body c.is_empty.ensures c.if-is_empty.false) l
    (λ t ks p h d q. a_pattern c.in-Some.next v.pattern (λ g. Want (Body (InClause t (Clause p (onto xs NoTree) ks) g) NoTree ∷ s) rest) (subst (λ o. PatternShows c.args.self.now.nodes.items o v.pattern) c.in-Some.is (c.pattern_of.ensures _ v i))
    (λ g u. c.in_ok-moved-in-Clause.ensures all rest s (InClause t (Clause p (onto xs NoTree) ks) g) k (is_clause h (clause_more _ c.in-Clause.pattern c.in-Clause.clauses.items _ c.args.body p xs ks c.in_ok-push-in-Clause.ensures.items q l d) u) r))

pub returns-in_default-tree_of : goal.returns-in_default-tree_of
returns-in_default-tree_of c = λ b xs j l all rest s v k i r.
    next_in_choice xs v s rest j c.in-Choice.is (not_empty c.args.body c.is_empty.ensures c.if-is_empty.false) l
    (λ ks t d h. no_tree _ _ all v.tree _ (subst (λ o. TreeShows c.args.self.now.nodes.items o v.tree) c.in_default-tree_of.is (c.tree_of.ensures _ v i)))

pub returns-in-Choice : goal.returns-in-Choice
returns-in-Choice c = λ b xs j l all rest s v k i r.
    next_in_choice xs v s rest j c.in-Choice.is (not_empty c.args.body c.is_empty.ensures c.if-is_empty.false) l
    (λ ks t d h. a_tree c.in-Some-tree_of.next v.tree (λ g. Want (Body (InChoice (Choice t (onto xs NoTree) ks) g) NoTree ∷ s) rest) (subst (λ o. TreeShows c.args.self.now.nodes.items o v.tree) c.in-Some-tree_of.is (c.tree_of.ensures _ v i))
    (λ g u. c.in_ok-moved-in-Choice.ensures all rest s (InChoice (Choice t (onto xs NoTree) ks) g) k (is_choice (choice_more _ c.in-Choice.condition c.in-Choice.choices.items _ c.args.body t xs ks c.in_ok-push-in-Choice.ensures.items h l d) u) r))
