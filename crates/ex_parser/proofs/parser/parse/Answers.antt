use Rattle.std.proofs.Common.{◌<◌, length, drop, refl}
use Rattle.ex_parser.specs.Shown.{tokens_of}
use Rattle.ex_parser.proofs.Runs.{so_far_start, so_far_turn, whole_further, unread, all_read}
use Rattle.ex_parser.proofs.parser.parse.Goals as goal

pub loop-at-init : goal.loop-at-init
loop-at-init c = record {
  free = c.new-2.ensures.items;
  so_far = so_far_start _ _ (tokens_of c.args.tokens.now) c.after_separator-at.result c.new-roots.ensures.items c.after_separator-at.ensures;
}

pub returns-in-None : goal.returns-in-None
returns-in-None c = unread _ _ c.args.tokens.now c.loop-at.at c.index-tokens-at.result c.loop-at.invariant.so_far c.loop-at-test.true (rw c.in-None.is at c.in_ok-read_whole.ensures)

pub loop-at-smaller : goal.loop-at-smaller
loop-at-smaller c =
    let falls : length (drop c.in-Some.next (tokens_of c.args.tokens.now)) < length (drop c.loop-at.at (tokens_of c.args.tokens.now)) = whole_further _ _ _ (tokens_of c.args.tokens.now) c.loop-at.at c.in-Some.root c.in-Some.next (rw c.in-Some.is at c.in_ok-read_whole.ensures) in
    falls

pub loop-at-preserved : goal.loop-at-preserved
loop-at-preserved c =
    let w = rw c.in-Some.is at c.in_ok-read_whole.ensures in
    record {
      free = w.1;
      so_far = so_far_turn _ _ _ _ _ c.args.tokens.now c.loop-at.at c.in-Some.root c.in-Some.next c.loop-at.invariant.so_far c.loop-at-test.true w c.in_ok-push-in-Some.ensures.items;
    }

pub returns : goal.returns
returns c = all_read _ _ c.args.tokens.now c.loop-at.at (record { nodes = c.loop-at.parser.nodes; roots = c.loop-at.roots }) c.loop-at.invariant.so_far c.loop-at-test.false refl refl
