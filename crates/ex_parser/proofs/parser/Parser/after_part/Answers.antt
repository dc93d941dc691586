use Rattle.ex_parser.specs.declared.follow.Next.TheVariants.{Comma, CommaDo, Do}
use Rattle.ex_parser.specs.Machine.{after_part, Part, DoFor, InFor}
use Rattle.ex_parser.specs.Shown.{is_part, is_do_for, is_for}
use Rattle.ex_parser.proofs.Turns.{begins, next_is, at_next}
use Rattle.ex_parser.proofs.parser.Parser.after_part.Goals as goal

pub returns-in_ok-moved-in-Comma : goal.returns-in_ok-moved-in-Comma
returns-in_ok-moved-in-Comma c = λ all s h f k i e. at_next (λ n. after_part n f.rest h s) Comma f (next_is all _ f _ c.in-Comma.is e) (begins _ _ all f.rest s (Part h) c.in_ok-moved-in-Comma.ensures k (is_part i) e.1)

pub returns-in_ok-moved-in-CommaDo : goal.returns-in_ok-moved-in-CommaDo
returns-in_ok-moved-in-CommaDo c = λ all s h f k i e. at_next (λ n. after_part n f.rest h s) CommaDo f (next_is all _ f _ c.in-CommaDo.is e) (begins _ _ all f.rest s (DoFor h) c.in_ok-moved-in-CommaDo.ensures k (is_do_for i) e.1)

pub returns-in_ok-moved-in-Do : goal.returns-in_ok-moved-in-Do
returns-in_ok-moved-in-Do c = λ all s h f k i e. at_next (λ n. after_part n f.rest h s) Do f (next_is all _ f _ c.in-Do.is e) (c.in_ok-moved-in-Do.ensures all f.rest s (InFor h) k (is_for i) e.1)
