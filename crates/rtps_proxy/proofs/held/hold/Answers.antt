use Rattle.rtps_proxy.proofs.Waiting.{put_at}
use Rattle.rtps_proxy.proofs.held.hold.Goals as goal

pub returns : goal.returns
returns g c = λ rising.
    let hs = c.args.held.now.items in
    rw c.in_ok-insert.ensures.items (put_at hs c.args.change c.place_of-at.result (rw c.get-number.ensures.value at (c.place_of-at.ensures.place rising)))
