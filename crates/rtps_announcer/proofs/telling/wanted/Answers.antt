use Rattle.std.proofs.Common.{◌≡◌, ◌+◌, [], ◌∷◌, ◌++◌, rules}
use Rattle.std.specs.Prelude.{vec_len}
use Rattle.rtps_announcer.specs.Telling.{wanted}
use Rattle.rtps_announcer.proofs.Lists.{wanted_more}
use Rattle.rtps_announcer.proofs.telling.wanted.Goals as goal

pub left-preserved-in-Continue-1 : goal.left-preserved-in-Continue-1
left-preserved-in-Continue-1 g c =
    let n = c.in-Some.number in
    let cut : c.left.left ≡ n ∷ c.next.new.self = search rules in
    let pushed : c.push.new.self.items ≡ c.left.numbers.items ++ n ∷ [] = search rules in
    let more : vec_len c.push.new.self ≡ vec_len c.left.numbers + 1 = search rules in
    rw more (wanted_more c.args.most c.args.last (vec_len c.left.numbers) n c.left.numbers.items c.push.new.self.items c.left.left c.next.new.self
    (wanted c.args.most c.args.last c.args.ack.now) (search rules) (search rules) pushed cut c.left.invariant)
