use Rattle.std.proofs.Common.{◌≡◌, ℕ, ◌<◌, ◌&&◌, length, not, true, sym, ◌∙◌, ap, ltb, arith}
use Rattle.std.proofs.lemmas.Bool.Decides.{nat_tests}
use Rattle.rtps_frags.specs.Buffer.{front_in, runs_in}
use Rattle.rtps_frags.specs.Fragments.{has_all, is_empty, last_of, payload_of}
use Rattle.rtps_frags.specs.Kept.{AssemblyView, has_come}
use Rattle.rtps_frags.specs.Chunks.{there_in}
use Rattle.rtps_frags.proofs.AnyOrder.{some_octets}
use Rattle.rtps_frags.proofs.Assembled.{payload_is, size_is, whole_is}
use Rattle.rtps_frags.proofs.Stored.{buffer_is}
use Rattle.rtps_frags.proofs.Whole.{and_first, and_second}
use Rattle.rtps_frags.proofs.assembly.Assembly.whole.Goals as goal

cut_from : (a : AssemblyView) → has_come a ≡ true → 0 < a.sizes.fragment
cut_from a h = some_octets a.sizes (and_first (not (is_empty a.sizes)) (has_all a.there 1 (last_of a.sizes)) (and_second (not a.spent) (not (is_empty a.sizes) && has_all a.there 1 (last_of a.sizes)) h))

all_from : (a : AssemblyView) → has_come a ≡ true → has_all a.there 1 (last_of a.sizes) ≡ true
all_from a h = and_second (not (is_empty a.sizes)) (has_all a.there 1 (last_of a.sizes)) (and_second (not a.spent) (not (is_empty a.sizes) && has_all a.there 1 (last_of a.sizes)) h)

above : (n m : ℕ) → ltb n m ≡ true → n < m
above n m h = grind (arith, nat_tests)

pub returns-clause-payload : goal.returns-clause-payload
returns-clause-payload g c =
    let a = c.self.inside in
    let p = a.chunks in
    let come : has_come (record { sizes = a.sizes; there = there_in a.sizes p; spent = a.spent }) ≡ true = ap has_come c.self.view_is ∙ c.requires in
    let whole : has_all (there_in a.sizes p) 1 (last_of a.sizes) ≡ ltb (last_of a.sizes) p.next = whole_is a.sizes p.next (front_in a.sizes p.next p.buffer.items) (runs_in a.sizes p.buffer.items p.early.entries) c.self.invariant.0.kept in
    let beyond : last_of a.sizes < p.next = above (last_of a.sizes) p.next (sym whole ∙ all_from (record { sizes = a.sizes; there = there_in a.sizes p; spent = a.spent }) come) in
    let payload : payload_of (there_in a.sizes p) ≡ front_in a.sizes p.next p.buffer.items = payload_is a.sizes p.next (front_in a.sizes p.next p.buffer.items) (runs_in a.sizes p.buffer.items p.early.entries) c.self.invariant.0.kept (cut_from (record { sizes = a.sizes; there = there_in a.sizes p; spent = a.spent }) come) beyond in
    let all : front_in a.sizes p.next p.buffer.items ≡ p.buffer.items = buffer_is a.sizes (cut_from (record { sizes = a.sizes; there = there_in a.sizes p; spent = a.spent }) come) p.next p.there p.buffer.items p.early.entries c.self.invariant.0 beyond in
    c.new.ensures ∙ sym all ∙ sym payload ∙ ap (λ (k : AssemblyView). payload_of k.there) c.self.view_is

pub returns-clause-size : goal.returns-clause-size
returns-clause-size g c =
    let a = c.self.inside in
    let p = a.chunks in
    let come : has_come (record { sizes = a.sizes; there = there_in a.sizes p; spent = a.spent }) ≡ true = ap has_come c.self.view_is ∙ c.requires in
    let whole : has_all (there_in a.sizes p) 1 (last_of a.sizes) ≡ ltb (last_of a.sizes) p.next = whole_is a.sizes p.next (front_in a.sizes p.next p.buffer.items) (runs_in a.sizes p.buffer.items p.early.entries) c.self.invariant.0.kept in
    let beyond : last_of a.sizes < p.next = above (last_of a.sizes) p.next (sym whole ∙ all_from (record { sizes = a.sizes; there = there_in a.sizes p; spent = a.spent }) come) in
    let all : front_in a.sizes p.next p.buffer.items ≡ p.buffer.items = buffer_is a.sizes (cut_from (record { sizes = a.sizes; there = there_in a.sizes p; spent = a.spent }) come) p.next p.there p.buffer.items p.early.entries c.self.invariant.0 beyond in
    ap length c.new.ensures ∙ ap length (sym all) ∙ size_is a.sizes p.next (front_in a.sizes p.next p.buffer.items) (runs_in a.sizes p.buffer.items p.early.entries) c.self.invariant.0.kept (cut_from (record { sizes = a.sizes; there = there_in a.sizes p; spent = a.spent }) come) beyond ∙ ap (λ (k : AssemblyView). k.sizes.sample) c.self.view_is
