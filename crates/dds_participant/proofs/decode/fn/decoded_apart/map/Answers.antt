use Rattle.std.proofs.Common.{ℕ, ◌*◌, ◌≤◌, All, arith, length, subst, sym, drop, ap, length-drop}
use Rattle.std.proofs.lemmas.List.{length-take}
use Rattle.std.proofs.lemmas.List.Elements.{All-drop, All-take}
use Rattle.rtps_types.specs.declared.datagram.Datagram.{Datagram}
use Rattle.dds_participant.proofs.decode.fn.decoded_apart.map.Goals as goal

pub decoded_alone-requires : goal.decoded_alone-requires
decoded_alone-requires c =
    let all = c.captures.datagrams.now in
    let at : ℕ = c.args.index * 64 in
    let left = drop at all in
    record {
      room = omega (arith, c.requires.0, c.requires.1, ap length c.piece.ensures, length-take 64 left, length-drop at all);
      fit = subst (All (λ (d : Datagram). length d.bytes.now ≤ 65507)) (sym c.piece.ensures) (All-take (λ (d : Datagram). length d.bytes.now ≤ 65507) 64 left (All-drop (λ (d : Datagram). length d.bytes.now ≤ 65507) at all c.requires.2));
    }
