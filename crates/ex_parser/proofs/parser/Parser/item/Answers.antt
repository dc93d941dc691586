use Rattle.ex_parser.specs.declared.follow.Next.TheVariants.{Comma, Bar}
use Rattle.ex_parser.specs.Machine.{Items, item, more_items}
use Rattle.ex_parser.specs.Shown.{is_items}
use Rattle.ex_parser.proofs.BracketTurns.{may_hold_more, item_shut}
use Rattle.ex_parser.proofs.Turns.{begins, next_is, at_next}
use Rattle.ex_parser.proofs.parser.Parser.item.Goals as goal

pub returns-in_ok-moved-in-Comma : goal.returns-in_ok-moved-in-Comma
returns-in_ok-moved-in-Comma c = λ e l i j m all s v f k q h.
    at_next (λ n. item n f.rest e (more_items l v) s) Comma f (next_is all _ f _ c.in-Comma.is h)
    (begins _ _ all f.rest s (Items e (more_items l v)) c.in_ok-moved-in-Comma.ensures k (is_items i (c.in_ok-items.ensures _ l v j q) (may_hold_more e l v m)) h.1)

pub returns-in_ok-moved-in-Bar : goal.returns-in_ok-moved-in-Bar
returns-in_ok-moved-in-Bar c = λ e l i j m all s v f k q h.
    at_next (λ n. item n f.rest e (more_items l v) s) Bar f (next_is all _ f _ c.in-Bar.is h)
    (c.in_ok-moved-in-Bar.ensures e (more_items l v) i (c.in_ok-items.ensures _ l v j q) all f.rest s k h.1)

pub returns-in_ok-moved-in-Close : goal.returns-in_ok-moved-in-Close
returns-in_ok-moved-in-Close c = λ e l i j m all s v f k q h.
    item_shut c.args.follow.after e (more_items l v) s all f c.in-Close.bracket c.bracket_of.result _ (c.bracket_of.ensures e i) c.same_bracket.ensures c.if-same_bracket.true (next_is all _ f _ c.in-Close.is h) h.1
    (c.in_ok-moved-in-Close.ensures e (more_items l v) i (c.in_ok-items.ensures _ l v j q) (may_hold_more e l v m) all s k)
