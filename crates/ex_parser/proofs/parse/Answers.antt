use Rattle.std.proofs.Common.{sym, subst}
use Rattle.ex_grammar.specs.Coded.{ArePlaced}
use Rattle.ex_parser.proofs.Runs.{placed_tokens, read_as, too_deep_at, unread_at}
use Rattle.ex_parser.proofs.parse.Goals as goal

pub parse-requires : goal.parse-requires
parse-requires c =
    let h = c.in-Ok.ensures in
    placed_tokens _ h.tokens (subst (λ v. ArePlaced v h.tokens) (sym c.as_slice-2.ensures.value) h.shown)

pub returns-in-Ok-Trees : goal.returns-in-Ok-Trees
returns-in-Ok-Trees c =
    let h = c.in-Ok.ensures in
    let within = rw c.in-Ok-None.field-0-is at c.in-Ok-None.ensures in
    let parsed = rw c.in-Ok-Trees.field-0-is at c.in-Ok-Trees.ensures in
    read_as _ _ _ h (within h.tokens (subst (λ v. ArePlaced v h.tokens) (sym c.as_slice.ensures.value) h.shown))
    (parsed c.args.source.now h.tokens h.lexes (subst (λ v. ArePlaced v h.tokens) (sym c.as_slice-2.ensures.value) h.shown))

pub returns-in-Ok-Syntax : goal.returns-in-Ok-Syntax
returns-in-Ok-Syntax c =
    let h = c.in-Ok.ensures in
    let within = rw c.in-Ok-None.field-0-is at c.in-Ok-None.ensures in
    let parsed = rw c.in-Ok-Syntax.field-0-is at c.in-Ok-Syntax.ensures in
    unread_at _ _ _ h (within h.tokens (subst (λ v. ArePlaced v h.tokens) (sym c.as_slice.ensures.value) h.shown))
    (parsed c.args.source.now h.tokens h.lexes (subst (λ v. ArePlaced v h.tokens) (sym c.as_slice-2.ensures.value) h.shown))

pub returns-in-Ok-Some : goal.returns-in-Ok-Some
returns-in-Ok-Some c =
    let h = c.in-Ok.ensures in
    let deep = rw c.in-Ok-Some.field-0-is at c.in-Ok-Some.ensures in
    too_deep_at _ _ _ h (deep h.tokens (subst (λ v. ArePlaced v h.tokens) (sym c.as_slice.ensures.value) h.shown))
