use Rattle.std.proofs.Common.{◌≡◌, [], Bool, true, false, not, refl, sym, ap, ◌∙◌}
use Rattle.std.specs.Prelude.{◌||◌, filter}
use Rattle.std.specs.Map.{keys_of}
use Rattle.std.specs.Str.{bytes_eq}
use Rattle.rtps_proxy.specs.Matches.{is_at}
use Rattle.rtps_discovery.specs.Sized.{are_sized}
use Rattle.rtps_discovery.proofs.Sizes.{all_sized, sized_remove}
use Rattle.rtps_discovery.proofs.Taking.{Taken, later, none_later, of, other_first, own_first, taken_is}
use Rattle.rtps_discovery.proofs.leave.take_first.Goals as goal

another : (b : Bool) → not b ≡ true → (b || false) ≡ false
another true h = absurd cc
another false h = refl

the_same : (b : Bool) → not b ≡ false → (b || false) ≡ true
the_same true h = refl
the_same false h = absurd cc

pub returns-in_err-found-clause-none : goal.returns-in_err-found-clause-none
returns-in_err-found-clause-none g c =
    let es = c.args.endpoints.now.entries in
    let p = c.args.prefix in
    let between : c.range.result ≡ filter (later p) es = c.range.ensures.between tt in
    let none : filter (later p) es ≡ [] = sym between ∙ c.in_err-found.ensures.steps.0 in
    let all = none_later p es (all_sized es c.requires) none in
    rw c.from_residual.ensures all

pub returns-then-ne-clause-none : goal.returns-then-ne-clause-none
returns-then-ne-clause-none g c =
    let es = c.args.endpoints.now.entries in
    let p = c.args.prefix in
    let between : c.range.result ≡ filter (later p) es = c.range.ensures.between tt in
    let other : of p c.in_ok-found.found.now ≡ false = another (bytes_eq p.0 c.in_ok-found.found.now.prefix.0) (sym c.ne.ensures ∙ c.if-ne.true) in
    other_first p es (c.in_ok-found.found.now, c.in_ok-found.field-0-1.now) c.next.new.self c.range.ensures.ordered (all_sized es c.requires) (sym between ∙ c.in_ok-found.ensures.steps) other

pub returns-clause-taken : goal.returns-clause-taken
returns-clause-taken g c =
    let es = c.args.endpoints.now.entries in
    let p = c.args.prefix in
    let e : _ × _ = (c.in_ok-found.found.now, c.in_ok-found.field-0-1.now) in
    let between : c.range.result ≡ filter (later p) es = c.range.ensures.between tt in
    let own : of p c.in_ok-found.found.now ≡ true = the_same (bytes_eq p.0 c.in_ok-found.found.now.prefix.0) (sym c.ne.ensures ∙ c.if-ne.false) in
    let first = own_first p es e c.next.new.self (all_sized es c.requires) (sym between ∙ c.in_ok-found.ensures.steps) own in
    let taken : Taken p es c.remove_entry.new.self.entries e = rw c.remove_entry.ensures.entries first in
    let there = rw c.in_ok-found.ensures.steps at (c.range.ensures.in_range tt).1 in
    taken_is p es c.remove_entry.new.self.entries e c.remove_entry.result taken c.remove_entry.ensures.same_key (c.remove_entry.ensures.value ∙ there.1)

pub returns-clause-others : goal.returns-clause-others
returns-clause-others g c =
    let es = c.args.endpoints.now.entries in
    let p = c.args.prefix in
    let e : _ × _ = (c.in_ok-found.found.now, c.in_ok-found.field-0-1.now) in
    let between : c.range.result ≡ filter (later p) es = c.range.ensures.between tt in
    let own : of p c.in_ok-found.found.now ≡ true = the_same (bytes_eq p.0 c.in_ok-found.found.now.prefix.0) (sym c.ne.ensures ∙ c.if-ne.false) in
    let first = own_first p es e c.next.new.self (all_sized es c.requires) (sym between ∙ c.in_ok-found.ensures.steps) own in
    rw c.remove_entry.ensures.entries first.others

pub returns-clause-sized : goal.returns-clause-sized
returns-clause-sized g c =
    ap (λ l. are_sized (keys_of l)) c.remove_entry.ensures.entries ∙ sized_remove (is_at c.in_ok-found.found.now) c.args.endpoints.now.entries c.requires
