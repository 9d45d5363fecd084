use Rattle.std.proofs.Common.{◌≡◌, rules}
use Rattle.std.proofs.lemmas.Result.{on_ok_weaker}
use Rattle.std.specs.Prelude.{codes, ◌∷◌, [], decimal, length}
use Rattle.std.specs.String.{string_bytes}
use Rattle.rtps_ascii.specs.Hex.{hex_text}
use Rattle.rtps_ascii.proofs.Appended.{added_is_joined}
use Rattle.examples.proofs.own_type.reading.ReadingStructure.push_text.Goals as goal

pub returns-clause-ok : goal.returns-clause-ok
returns-clause-ok g c =
    let reading = c.args.self.now in
    let count : c.len.result ≡ length reading.levels.items = search rules in
    on_ok_weaker c.push_number-3.result (λ e. rw e (rw c.in_ok-push_octet-3.ensures.ok (rw c.in_ok-push_hex.ensures.ok (rw c.in_ok-push_octet-2.ensures.ok (rw c.in_ok-push_number-2.ensures.ok (rw c.in_ok-push_octet.ensures.ok (rw c.in_ok-push_number.ensures.ok (rw count (rw c.as_bytes.ensures.value (rw c.from.ensures (added_is_joined _ (decimal reading.station) (
    (codes " ")
    ∷ (decimal reading.taken)
    ∷ (codes " ")
    ∷ (hex_text (string_bytes reading.place))
    ∷ (codes " ")
    ∷ (decimal (length reading.levels.items))
    ∷ [])))))))))))) c.push_number-3.ensures.ok
