-- What is packed, composed or transformed within the limit is a delta.
use Rattle.std.proofs.Common.{◌≡◌, ◌^◌, ◌≤◌, Bool, List, None, arith}
use Rattle.delta.proofs.CanonicalPacks.{packed_good, reach_steps, puts_steps, transform_reach, transform_puts, compose_reach, compose_puts}
use Rattle.delta.specs.Canonical.{bad_step}
use Rattle.delta.specs.Compose.{composed_small}
use Rattle.delta.specs.Moves.{composed, transformed, HaveRoom}
use Rattle.delta.specs.Pack.{packed}
use Rattle.delta.specs.Spread.{small_reach}
use Rattle.delta.specs.Steps.{reach_of, inserted_by, all_small}
use Rattle.delta.specs.Transform.{transformed_small}
use Rattle.delta.specs.declared.Step.{Step}

pub composed_room : (a b : List Step) → HaveRoom a b → small_reach (composed_small (all_small a) (all_small b)) ≤ 2 ^ 62
composed_room a b h = omega (arith, compose_reach (all_small a) (all_small b), reach_steps a, reach_steps b)

pub composed_good : (a b : List Step) → HaveRoom a b → bad_step (composed a b) ≡ None
composed_good a b h =
    packed_good (composed_small (all_small a) (all_small b)) (composed_room a b h) (omega (arith, compose_puts (all_small a) (all_small b), puts_steps a, puts_steps b))

pub transformed_room : (f : Bool) (a b : List Step) → HaveRoom a b → small_reach (transformed_small f (all_small a) (all_small b)) ≤ 2 ^ 62
transformed_room f a b h = omega (arith, transform_reach f (all_small a) (all_small b), reach_steps a, reach_steps b, puts_steps a)

pub transformed_good : (f : Bool) (a b : List Step) → HaveRoom a b → bad_step (transformed f a b) ≡ None
transformed_good f a b h =
    packed_good (transformed_small f (all_small a) (all_small b)) (transformed_room f a b h) (omega (arith, transform_puts f (all_small a) (all_small b), puts_steps b))

pub packed_room : (d : List Step) → reach_of d ≤ 2 ^ 62 → small_reach (all_small d) ≤ 2 ^ 62
packed_room d h = omega (arith, reach_steps d)

pub packed_steps_good : (d : List Step) → reach_of d ≤ 2 ^ 62 → inserted_by d ≤ 2 ^ 62 → bad_step (packed (all_small d)) ≡ None
packed_steps_good d r i = packed_good (all_small d) (packed_room d r) (omega (arith, puts_steps d))
