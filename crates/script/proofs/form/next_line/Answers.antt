use Rattle.script.specs.Words.{first_word, after_word}
use Rattle.script.specs.Next.{Tells, IsPlainLine, IsClientLine, HasNumber}
use Rattle.std.proofs.Common.{ℕ, None, IfOk}
use Rattle.script.proofs.Following.{next-none, next-client}
use Rattle.script.proofs.form.next_line.Goals as goal

pub returns-in_default-number_in : goal.returns-in_default-number_in
returns-in_default-number_in c =
    let plain : Tells (IsPlainLine c.args.word.now c.args.rest.now) None = rw c.in_default.is at c.plain_line.ensures in
    let none : (client : ℕ) → ¬ (HasNumber c.args.names.now (first_word c.args.rest.now) client) = rw (c.in_default-number_in.is, c.split_word.ensures.word) at c.number_in.ensures in
    next-none c.args.names.now c.args.word.now c.args.rest.now plain none

pub returns : goal.returns
returns c =
    let plain : Tells (IsPlainLine c.args.word.now c.args.rest.now) None = rw c.in_default.is at c.plain_line.ensures in
    let has : HasNumber c.args.names.now (first_word c.args.rest.now) c.in-Some-number_in.client = rw (c.in-Some-number_in.is, c.split_word.ensures.word) at c.number_in.ensures in
    let told : IfOk c.client_line.result (Tells (IsClientLine c.args.word.now c.in-Some-number_in.client (after_word c.args.rest.now))) = rw c.split_word.ensures.rest at c.client_line.ensures in
    next-client c.args.names.now c.args.word.now c.args.rest.now c.in-Some-number_in.client c.client_line.result c.requires.differ plain has told
