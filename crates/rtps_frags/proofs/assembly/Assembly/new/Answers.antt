use Rattle.rtps_frags.specs.Fragments.{last_of}
use Rattle.rtps_frags.specs.Chunks.{part_at}
use Rattle.rtps_frags.specs.declared.sizes.Sizes.{Sizes}
use Rattle.rtps_frags.proofs.Listed.{none_listed}
use Rattle.rtps_frags.proofs.assembly.Assembly.new.Goals as goal

pub invariant_of-result : goal.invariant_of-result
invariant_of-result g c = (c.new.ensures.kept (record { sample = c.args.sample_size; fragment = c.args.fragment_size }), λ _. c.new.ensures.bounded)

pub returns-clause-there : goal.returns-clause-there
returns-clause-there g c =
    let z : Sizes = record { sample = c.args.sample_size; fragment = c.args.fragment_size } in
    none_listed (part_at z c.new.result) 1 (last_of z) (λ k. c.new.ensures.none z k)
