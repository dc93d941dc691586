use Rattle.std.proofs.Common.{◌≡◌, ◌<◌, ◌+◌, ◌-◌, sym, ap, subst, arith, length, refl, None}
use Rattle.ex_lexer.specs.Settled.{gap_of}
use Rattle.ex_lexer.proofs.Bytes.{is_some, is_none}
use Rattle.ex_lexer.proofs.Running.{Running, running_start, running_turn, running_refused, running_open, running_out, done_fits}
use Rattle.ex_lexer.proofs.lexer.lex.Goals as goal

pub loop-rest-init : goal.loop-rest-init
loop-rest-init c =
    let z : length c.args.source.now - length c.args.source.now ≡ 0 = omega arith in
    record {
      text = c.utf8.source;
      within = omega arith;
      running = subst (λ n. Running c.args.source.now c.args.source.now n c.new.result None c.new-2.result.items) (sym z) (running_start c.args.source.now c.new.result c.new.ensures.0 (ap gap_of c.new.ensures.1) c.new.ensures.2 c.new-2.result.items c.new-2.ensures.items);
    }

pub returns-in-Refuses : goal.returns-in-Refuses
returns-in-Refuses c =
    let r = c.loop-rest.invariant.running in
    let d = c.in_ok-len.ensures r.holes r.made r.before r.open' r.settled in
    running_refused c.args.source.now c.loop-rest.rest.now (length c.args.source.now - length c.loop-rest.rest.now) c.in-Refuses.at c.in-Refuses.kind c.loop-rest.lexer.settled c.step.new.self.settled c.loop-rest.lexer.inner c.step.new.self.inner c.loop-rest.lexer.outer.items c.step.new.self.outer.items r c.utf8.source
    (rw c.in-Refuses.is at d) (is_some c.loop-rest.rest.now c.loop-rest-test.ensures)

pub range_from-rest-requires : goal.range_from-rest-requires
range_from-rest-requires c =
    let r = c.loop-rest.invariant.running in
    let d = c.in_ok-len.ensures r.holes r.made r.before r.open' r.settled in
    let f = done_fits ((length c.args.source.now - length c.loop-rest.rest.now) + 1) (length c.args.source.now - length c.loop-rest.rest.now) r.made r.before (gap_of c.loop-rest.lexer.settled.gap) r.holes c.loop-rest.rest.now c.step.new.self.settled c.step.new.self.inner c.step.new.self.outer.items c.in-Goes.len c.loop-rest.invariant.text (is_some c.loop-rest.rest.now c.loop-rest-test.ensures) (rw c.in-Goes.is at d) in
    λ _. f.2

pub loop-rest-smaller : goal.loop-rest-smaller
loop-rest-smaller c =
    let r = c.loop-rest.invariant.running in
    let d = c.in_ok-len.ensures r.holes r.made r.before r.open' r.settled in
    let f = done_fits ((length c.args.source.now - length c.loop-rest.rest.now) + 1) (length c.args.source.now - length c.loop-rest.rest.now) r.made r.before (gap_of c.loop-rest.lexer.settled.gap) r.holes c.loop-rest.rest.now c.step.new.self.settled c.step.new.self.inner c.step.new.self.outer.items c.in-Goes.len c.loop-rest.invariant.text (is_some c.loop-rest.rest.now c.loop-rest-test.ensures) (rw c.in-Goes.is at d) in
    let lt : length c.range_from-rest.result.now < length c.loop-rest.rest.now = omega (arith, c.range_from-rest.ensures.len, f.0, f.1) in
    lt

pub loop-rest-preserved : goal.loop-rest-preserved
loop-rest-preserved c =
    let r = c.loop-rest.invariant.running in
    let d = c.in_ok-len.ensures r.holes r.made r.before r.open' r.settled in
    let f = done_fits ((length c.args.source.now - length c.loop-rest.rest.now) + 1) (length c.args.source.now - length c.loop-rest.rest.now) r.made r.before (gap_of c.loop-rest.lexer.settled.gap) r.holes c.loop-rest.rest.now c.step.new.self.settled c.step.new.self.inner c.step.new.self.outer.items c.in-Goes.len c.loop-rest.invariant.text (is_some c.loop-rest.rest.now c.loop-rest-test.ensures) (rw c.in-Goes.is at d) in
    let p : (length c.args.source.now - length c.loop-rest.rest.now) + c.in-Goes.len ≡ length c.args.source.now - length c.range_from-rest.result.now = omega (arith, c.range_from-rest.ensures.len, c.loop-rest.invariant.within, f.1) in
    record {
      text = c.range_from-rest.utf8;
      within = omega (arith, c.range_from-rest.ensures.len, c.loop-rest.invariant.within, f.1);
      running = subst (λ n. Running c.args.source.now c.range_from-rest.result.now n c.step.new.self.settled c.step.new.self.inner c.step.new.self.outer.items) p
          (running_turn c.args.source.now c.loop-rest.rest.now c.range_from-rest.result.now (length c.args.source.now - length c.loop-rest.rest.now) c.in-Goes.len c.loop-rest.lexer.settled c.step.new.self.settled c.loop-rest.lexer.inner c.step.new.self.inner c.loop-rest.lexer.outer.items c.step.new.self.outer.items r f.0 (rw c.in-Goes.is at d) c.range_from-rest.ensures.value);
    }

pub returns-in-Some : goal.returns-in-Some
returns-in-Some c =
    let r = c.loop-rest.invariant.running in
    running_open c.args.source.now c.loop-rest.rest.now (length c.args.source.now - length c.loop-rest.rest.now) c.loop-rest.lexer.settled c.in-Some.hole c.loop-rest.lexer.inner c.loop-rest.lexer.outer.items r c.in-Some.is (is_none c.loop-rest.rest.now c.loop-rest-test.ensures) c.utf8.source

pub returns : goal.returns
returns c =
    let r = c.loop-rest.invariant.running in
    running_out c.args.source.now c.loop-rest.rest.now (length c.args.source.now - length c.loop-rest.rest.now) c.loop-rest.lexer.settled c.separate.new.self.tokens.items c.loop-rest.lexer.inner c.loop-rest.lexer.outer.items r c.in_default.is (is_none c.loop-rest.rest.now c.loop-rest-test.ensures) c.utf8.source
    (c.in_ok-separate.ensures r.made r.before None r.settled refl)
