use Rattle.std.proofs.Common.{◌≡◌, [], false, true, map, ap, sym, ◌∙◌}
use Rattle.rtps_discovery.specs.Ends.{has_prefix, is_due}
use Rattle.rtps_discovery.specs.Kept.{kept}
use Rattle.rtps_discovery.specs.Known.{moved}
use Rattle.rtps_discovery.specs.Seen.{change_seen}
use Rattle.rtps_discovery.proofs.Expiring.{Expires, expires, expires_none, refused}
use Rattle.rtps_discovery.proofs.registry.Registry.expire.Goals as goal

pub leave_all-requires : goal.leave_all-requires
leave_all-requires g c = rw c.as_slice.ensures.value c.in_ok-gone.ensures.sorted

pub returns-clause-known : goal.returns-clause-known
returns-clause-known g c = λ k is.
    let all : Expires c.args.moment k (kept c.leave_all.new.self) (map change_seen c.leave_all.new.changes.items) =
    expires k (kept c.advance.new.self) (kept c.leave_all.new.self) c.args.moment c.as_slice.result.now (map change_seen c.leave_all.new.changes.items)
    (c.advance.ensures k is)
    (λ p. ap (λ l. has_prefix l p) c.as_slice.ensures.value ∙ c.in_ok-gone.ensures.due p)
    (rw c.new-ended.ensures.items at c.in_ok-leave_all.ensures) in
    all.known

pub returns-clause-changes : goal.returns-clause-changes
returns-clause-changes g c = λ k is.
    let all : Expires c.args.moment k (kept c.leave_all.new.self) (map change_seen c.leave_all.new.changes.items) =
    expires k (kept c.advance.new.self) (kept c.leave_all.new.self) c.args.moment c.as_slice.result.now (map change_seen c.leave_all.new.changes.items)
    (c.advance.ensures k is)
    (λ p. ap (λ l. has_prefix l p) c.as_slice.ensures.value ∙ c.in_ok-gone.ensures.due p)
    (rw c.new-ended.ensures.items at c.in_ok-leave_all.ensures) in
    all.changes

pub returns-then-not-is_due-clause-known : goal.returns-then-not-is_due-clause-known
returns-then-not-is_due-clause-known g c = λ k is.
    let none : is_due (kept c.advance.new.self).leases (kept c.advance.new.self).moment ≡ false = sym c.is_due.ensures ∙ c.if-not-is_due.true in
    let all : Expires c.args.moment k (kept c.advance.new.self) [] =
    expires_none k (kept c.advance.new.self) c.args.moment (c.advance.ensures k is) none in
    all.known

pub returns-then-not-is_due-clause-changes : goal.returns-then-not-is_due-clause-changes
returns-then-not-is_due-clause-changes g c = λ k is.
    let none : is_due (kept c.advance.new.self).leases (kept c.advance.new.self).moment ≡ false = sym c.is_due.ensures ∙ c.if-not-is_due.true in
    let all : Expires c.args.moment k (kept c.advance.new.self) [] =
    expires_none k (kept c.advance.new.self) c.args.moment (c.advance.ensures k is) none in
    ap (map change_seen) c.new-ended.ensures.items ∙ all.changes

pub returns-in_err-gone-clause-quiet : goal.returns-in_err-gone-clause-quiet
returns-in_err-gone-clause-quiet g c = λ k is none.
    let due : is_due (kept c.advance.new.self).leases (kept c.advance.new.self).moment ≡ true = sym c.is_due.ensures ∙ c.if-not-is_due.false in
    absurd (refused (moved c.args.moment k) (kept c.advance.new.self) (c.advance.ensures k is) due none)

pub returns-in_err-leave_all-clause-quiet : goal.returns-in_err-leave_all-clause-quiet
returns-in_err-leave_all-clause-quiet g c = λ k is none.
    let due : is_due (kept c.advance.new.self).leases (kept c.advance.new.self).moment ≡ true = sym c.is_due.ensures ∙ c.if-not-is_due.false in
    absurd (refused (moved c.args.moment k) (kept c.advance.new.self) (c.advance.ensures k is) due none)
