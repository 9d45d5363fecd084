use Rattle.std.proofs.Common.{◌≡◌, ℕ, ◌<◌, ◌+◌, ◌*◌, ◌^◌, ◌≤◌, ◌-◌, ◌∙◌, length, ap, sym, subst, arith, All}
use Rattle.std.specs.List.{AllZip, range_with_len}
use Rattle.std.proofs.Crossing.{crosses, frees}
use Rattle.std.proofs.lemmas.Grind.{div_ceil_times}
use denote.Param.Send.{sendable}
use Rattle.rayon.specs.Numbers.{nat_range}
use Rattle.rayon.proofs.ListFacts.{IfOk-then}
use Rattle.rayon.proofs.ToStd.{nat_range-All}
use Rattle.dds_participant.specs.Decode.{IsPiece}
use Rattle.dds_participant.proofs.Pieces.{pieces_of}
use Rattle.dds_participant.proofs.decode.decoded_apart.Goals as goal

-- one line for each `Send` and `Sync`, the allocator, and then the closure's `requires` at each number of the range
pub collect-requires : goal.collect-requires
collect-requires g c κs =
    let ends = c.into_par_iter.ensures in
    let all = c.args.datagrams.now in
    let bounds = div_ceil_times (length all) 64 (omega arith) in
    let inside = nat_range-All (λ i. (i * 64 < length all) × (c.args.first + length all < 2 ^ 64) × All (λ d. length d.bytes.now ≤ 65507) all) 0 c.div_ceil.result
    (λ i low high. (omega (arith, high, bounds.1, c.div_ceil.ensures), c.requires.room, c.requires.fit)) in
    (search (sendable, crosses) depth 60 fits 30000, (search (sendable, crosses) depth 60 fits 30000, (search (sendable, crosses) depth 60 fits 30000, (search (sendable, crosses) depth 60 fits 30000, (search (sendable, crosses) depth 60 fits 30000, (frees, rw (c.map.ensures.base, c.map.ensures.f, ends.0, ends.1) (λ k d lt. (inside k d lt, λ y p. tt))))))))

pub returns : goal.returns
returns g c =
    let ends = c.into_par_iter.ensures in
    let all = c.args.datagrams.now in
    let n : ℕ = c.div_ceil.result in
    let whole : n - 0 ≡ n = omega arith in
    IfOk-then c.collect.result _ _ c.collect.ensures (λ v h.
    let chain = h.1 in
    let pieces = pieces_of _ c.args.own c.args.first all chain.0 h.0 (λ index result p. subst (λ f. IsPiece f.2.now f.0.now f.3.now index result) c.map.ensures.f p) chain.2 in
    let places = chain.1 ∙ ap (λ it. nat_range it.start it.end) c.map.ensures.base ∙ (λ i. nat_range (ends.0 i) (ends.1 i)) ∙ ap (range_with_len 0) (whole ∙ c.div_ceil.ensures) in
    subst (λ l. AllZip (IsPiece c.args.own c.args.first all) l v.items) places (subst (AllZip (IsPiece c.args.own c.args.first all) chain.0) (sym h.2) pieces))
