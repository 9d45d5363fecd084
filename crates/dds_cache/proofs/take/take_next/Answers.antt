use Rattle.std.proofs.Common.{◌≡◌, ℕ, [], ◌∷◌, Some, refl, ap, sym, ◌∙◌}
use Rattle.std.specs.Map.{lookup}
use Rattle.std.specs.Option.{option_copied}
use Rattle.dds_cache.specs.declared.choose.Chosen.{Chosen}
use Rattle.dds_cache.specs.declared.entry.Entry.{Entry}
use Rattle.dds_cache.specs.Answered.{sample_state, view_state}
use Rattle.dds_cache.specs.Instances.{state_by}
use Rattle.dds_cache.specs.Effects.{HandsOver, chosen_by, shown_as}
use Rattle.std.specs.Prelude.{Option, filter, nat_lt}
use Rattle.dds_cache.specs.declared.choose.States.{States}
use Rattle.dds_cache.specs.Standing.{InstanceView, count_in, disposed_in, is_number, new_in, not_yet, numbers, parts}
use Rattle.dds_cache.proofs.Next.{head_of, never, none_first, nothing, taken_next}
use Rattle.dds_cache.proofs.take.take_next.Goals as goal

abbrev shows : {M : Type 0} → ℕ → Entry M → States → Chosen
shows n e s = record { number = n; key = e.key; sample = sample_state e.is_read; view = view_state s.is_new; instance = state_by s.is_disposed s.is_written }

abbrev states_in : Option InstanceView → States
states_in o = record { is_new = new_in o; is_disposed = disposed_in o; is_written = nat_lt 0 (count_in o) }

chosen_is : {M : Type 0} (c : Chosen) (n : ℕ) (e : Entry M) (s : States) (o : Option InstanceView) → c ≡ shows n e s → s ≡ states_in o
    → c ≡ record { number = n; key = e.key; sample = sample_state e.is_read; view = view_state (new_in o); instance = state_by (disposed_in o) (nat_lt 0 (count_in o)) }
chosen_is c n e s o is states = is ∙ ap (shows n e) states

pub returns-in_default-clause-answer : goal.returns-in_default-clause-answer
returns-in_default-clause-answer g c = λ past s.
    let p = parts {A = g.row.A.Denot} {M = g.row.V.Denot} c.args.index.now c.args.entries.now in
    let none : numbers (filter not_yet c.args.entries.now.entries) ≡ [] = none_first (numbers (filter not_yet c.args.entries.now.entries)) (sym c.first_unread.ensures ∙ c.in_default.is) in
    let h : HandsOver [] p p = record { keep = refl; accepted = refl; entries = refl; find = λ k. refl; live = refl } in
    sym (nothing past p s p none h).0

pub returns-in_default-clause-stands : goal.returns-in_default-clause-stands
returns-in_default-clause-stands g c = λ past s.
    let p = parts {A = g.row.A.Denot} {M = g.row.V.Denot} c.args.index.now c.args.entries.now in
    let none : numbers (filter not_yet c.args.entries.now.entries) ≡ [] = none_first (numbers (filter not_yet c.args.entries.now.entries)) (sym c.first_unread.ensures ∙ c.in_default.is) in
    let h : HandsOver [] p p = record { keep = refl; accepted = refl; entries = refl; find = λ k. refl; live = refl } in
    (nothing past p s p none h).1

pub returns-in_default-get-clause-answer : goal.returns-in_default-get-clause-answer
returns-in_default-get-clause-answer g c = λ past s.
    let p = parts {A = g.row.A.Denot} {M = g.row.V.Denot} c.args.index.now c.args.entries.now in
    let first = head_of (numbers (filter not_yet c.args.entries.now.entries)) c.in-Some.number (sym c.first_unread.ensures ∙ c.in-Some.is) in
    absurd (never past p s c.in-Some.number first.0 first.1 (sym c.get.ensures ∙ ap option_copied c.in_default-get.is))

pub returns-in_default-get-clause-stands : goal.returns-in_default-get-clause-stands
returns-in_default-get-clause-stands g c = λ past s.
    let p = parts {A = g.row.A.Denot} {M = g.row.V.Denot} c.args.index.now c.args.entries.now in
    let first = head_of (numbers (filter not_yet c.args.entries.now.entries)) c.in-Some.number (sym c.first_unread.ensures ∙ c.in-Some.is) in
    absurd (never past p s c.in-Some.number first.0 first.1 (sym c.get.ensures ∙ ap option_copied c.in_default-get.is))

pub returns-in-None-clause-answer : goal.returns-in-None-clause-answer
returns-in-None-clause-answer g c = λ past s.
    let p = parts {A = g.row.A.Denot} {M = g.row.V.Denot} c.args.index.now c.args.entries.now in
    let first = head_of (numbers (filter not_yet c.args.entries.now.entries)) c.in-Some.number (sym c.first_unread.ensures ∙ c.in-Some.is) in
    let number : c.show-chosen.result.number ≡ c.in-Some.number = ap (λ (x : Chosen). x.number) c.show-chosen.ensures in
    absurd (never past p s c.in-Some.number first.0 first.1 (ap (λ n. lookup (is_number n) c.args.entries.now.entries) (sym number) ∙ sym c.forget.ensures.entry ∙ c.in-None.is))

pub returns-in-None-clause-stands : goal.returns-in-None-clause-stands
returns-in-None-clause-stands g c = λ past s.
    let p = parts {A = g.row.A.Denot} {M = g.row.V.Denot} c.args.index.now c.args.entries.now in
    let first = head_of (numbers (filter not_yet c.args.entries.now.entries)) c.in-Some.number (sym c.first_unread.ensures ∙ c.in-Some.is) in
    let number : c.show-chosen.result.number ≡ c.in-Some.number = ap (λ (x : Chosen). x.number) c.show-chosen.ensures in
    absurd (never past p s c.in-Some.number first.0 first.1 (ap (λ n. lookup (is_number n) c.args.entries.now.entries) (sym number) ∙ sym c.forget.ensures.entry ∙ c.in-None.is))

pub returns-in-Some-forget-clause-answer : goal.returns-in-Some-forget-clause-answer
returns-in-Some-forget-clause-answer g c = λ past s.
    let p = parts {A = g.row.A.Denot} {M = g.row.V.Denot} c.args.index.now c.args.entries.now in
    let first = head_of (numbers (filter not_yet c.args.entries.now.entries)) c.in-Some.number (sym c.first_unread.ensures ∙ c.in-Some.is) in
    let n = c.in-Some.number in
    let e = c.in-Some-get.entry.now in
    let q = parts {A = g.row.A.Denot} {M = g.row.V.Denot} c.forget.new.index c.forget.new.entries in
    let found : lookup (is_number n) c.args.entries.now.entries ≡ Some e = sym c.get.ensures ∙ ap option_copied c.in-Some-get.is in
    let chosen : c.show-chosen.result ≡ chosen_by p.find (n, e) = chosen_is c.show-chosen.result n e c.of.result (p.find e.key) c.show-chosen.ensures c.of.ensures in
    let number : c.show-chosen.result.number ≡ n = ap (λ (x : Chosen). x.number) c.show-chosen.ensures in
    let h : HandsOver (c.show-chosen.result ∷ []) p q = record { keep = c.forget.ensures.same.0; accepted = c.forget.ensures.same.1; entries = c.forget.ensures.left; find = c.forget.ensures.find; live = c.forget.ensures.same.2 } in
    let next = taken_next past p s n first.0 first.1 e found c.show-chosen.result chosen q h in
    let twice : Some c.in-Some-forget.entry ≡ Some e = sym c.in-Some-forget.is ∙ c.forget.ensures.entry ∙ ap (λ m. lookup (is_number m) c.args.entries.now.entries) number ∙ found in
    let same : c.in-Some-forget.entry ≡ e = cc in
    ap (λ x. x ∷ []) (c.into_sample.ensures ∙ ap (λ x. shown_as x c.show-chosen.result) same) ∙ next.0

pub returns-in-Some-forget-clause-stands : goal.returns-in-Some-forget-clause-stands
returns-in-Some-forget-clause-stands g c = λ past s.
    let p = parts {A = g.row.A.Denot} {M = g.row.V.Denot} c.args.index.now c.args.entries.now in
    let first = head_of (numbers (filter not_yet c.args.entries.now.entries)) c.in-Some.number (sym c.first_unread.ensures ∙ c.in-Some.is) in
    let n = c.in-Some.number in
    let e = c.in-Some-get.entry.now in
    let q = parts {A = g.row.A.Denot} {M = g.row.V.Denot} c.forget.new.index c.forget.new.entries in
    let found : lookup (is_number n) c.args.entries.now.entries ≡ Some e = sym c.get.ensures ∙ ap option_copied c.in-Some-get.is in
    let chosen : c.show-chosen.result ≡ chosen_by p.find (n, e) = chosen_is c.show-chosen.result n e c.of.result (p.find e.key) c.show-chosen.ensures c.of.ensures in
    let number : c.show-chosen.result.number ≡ n = ap (λ (x : Chosen). x.number) c.show-chosen.ensures in
    let h : HandsOver (c.show-chosen.result ∷ []) p q = record { keep = c.forget.ensures.same.0; accepted = c.forget.ensures.same.1; entries = c.forget.ensures.left; find = c.forget.ensures.find; live = c.forget.ensures.same.2 } in
    let next = taken_next past p s n first.0 first.1 e found c.show-chosen.result chosen q h in
    next.1
