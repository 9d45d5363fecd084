use Rattle.std.proofs.Common.{◌≡◌, ◌∙◌, ◌++◌, ◌∷◌, [], All, ap, append_assoc, arith, length, length-append, rules, subst, sym}
use Rattle.rtps_shards.specs.Ends.{owner_hand, thief_hand}
use Rattle.rtps_shards.specs.Board.{hand}
use Rattle.rtps_shards.specs.Work.{HasDone, IsBack, Works}
use Rattle.rtps_shards.proofs.Crews.{back_more, ok_is}
use Rattle.rtps_shards.proofs.Together.{all_back}
use Rattle.rtps_shards.proofs.workers.take_back.Goals as goal

pub loop-worked-preserved : goal.loop-worked-preserved
loop-worked-preserved g c =
    let f = g.C.Catalog.view in
    let left : c.loop-worked.worked-iterator.rest.items ≡ c.in-Some.worked ∷ c.next.new.self.rest.items = search rules in
    let crew : c.args.crew.items ≡ c.loop-worked.yielded ++ c.in-Some.worked ∷ c.next.new.self.rest.items = c.loop-worked.invariant.crew ∙ ap (λ l. c.loop-worked.yielded ++ l) left in
    record {
      board = c.give_back.ensures.board ∙ c.loop-worked.invariant.board;
      crew = crew ∙ sym (append_assoc c.loop-worked.yielded (c.in-Some.worked ∷ []) c.next.new.self.rest.items);
      done = λ decoding es all first.
          let board = c.args.board.now in
          let one = all_back (HasDone f decoding es board) c.loop-worked.yielded (c.in-Some.worked ∷ c.next.new.self.rest.items) (subst (All (HasDone f decoding es board)) crew all) 0 c.in-Some.worked (omega arith) in
          let works : Works f decoding es (hand 1 [] []) (thief_hand c.in-Some.worked.thief) c.in_ok-more.more.items = ok_is _ c.in-Some.worked.results c.in_ok-more.more (search rules) one.1 in
          subst (λ n. IsBack f decoding es (owner_hand c.args.board.now) n (owner_hand c.give_back.new.self) c.append.new.self) (sym (length-append c.loop-worked.yielded (c.in-Some.worked ∷ [])))
          (back_more f decoding es (owner_hand c.args.board.now) (owner_hand c.loop-worked.board) (owner_hand c.give_back.new.self) (thief_hand c.in-Some.worked.thief) (length c.loop-worked.yielded) c.loop-worked.all c.append.new.self
          c.in_ok-more.more.items (c.loop-worked.invariant.done decoding es all first) works c.give_back.ensures.hand (search rules));
    }
