use Rattle.std.proofs.Common.{length, arith, chars}
use Rattle.std.proofs.lemmas.Iterator.{YieldsList-from_chars}
use Rattle.std.proofs.lemmas.List.{length_push}
use Rattle.std.proofs.lemmas.Iterator.Consumers.{YieldsList-turn, YieldsList-end}
use Rattle.dds_described.specs.JsonText.{escaped}
use Rattle.rtps_ascii.proofs.Kept.{still_starts}
use Rattle.dds_described.proofs.Texts.{char_put, chars_done}
use Rattle.dds_described.proofs.json_text.push_chars.Goals as goal

pub chars-preserved : goal.chars-preserved
chars-preserved g c =
    let t = YieldsList-turn (YieldsList-from_chars c.args.text.now c.utf8.text cc) c.chars.yielded _
    c.chars.yielded_by _ _ c.in-Some.c c.in-Some.is c.next.ensures.steps in
    record {
      put = char_put escaped c.args.out.now.items c.chars.out.items c.push_char.new.out.items
          (chars c.args.text.now) (length c.chars.yielded) _ c.in-Some.c t.0 t.1
          (omega (arith, length_push c.chars.yielded c.in-Some.c)) c.in_ok-push_char.ensures.ok
          c.chars.invariant.put;
      keeps = still_starts c.push_char.new.out.items c.chars.out.items c.args.out.now.items
          c.in_ok-push_char.ensures.keeps c.chars.invariant.keeps;
    }

pub returns-clause-ok : goal.returns-clause-ok
returns-clause-ok g c =
    let t = YieldsList-end (YieldsList-from_chars c.args.text.now c.utf8.text cc) c.chars.yielded _
    c.chars.yielded_by _ _ c.in-None.is c.next.ensures.steps in
    chars_done escaped c.args.out.now.items c.chars.out.items (chars c.args.text.now)
    (length c.chars.yielded) (omega (arith, t.1)) c.chars.invariant.put
