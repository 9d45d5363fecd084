-- Fragments of one payload give that payload.
use Rattle.std.proofs.Common.{◌≡◌, ℕ, zero, suc, ◌+◌, ◌<◌, ◌≤◌, true, not, List, [], ◌∷◌, length, drop, sym, ◌∙◌, ap, arith}
use Rattle.std.specs.Prelude.{is_some}
use Rattle.std.specs.List.{AllByRecursion}
use Rattle.std.proofs.lemmas.Bool.Decides.{nat_tests}
use Rattle.std.proofs.lemmas.List.{drop_all}
use Rattle.rtps_frags.specs.declared.sizes.Sizes.{Sizes}
use Rattle.rtps_frags.specs.Fragments.{There, before, fragment_in, has_all, is_empty, last_of, payload_of}
use Rattle.rtps_frags.specs.Payload.{AnyOrderGivesThePayload, AreFragments, IsPartOf, Part, there_after}
use Rattle.rtps_frags.proofs.Cuts.{before_first, reaches}
use Rattle.rtps_frags.proofs.Faultless.{Faultless, faultless, fits}
use Rattle.rtps_frags.proofs.Listed.{piece_then}
use Rattle.rtps_frags.proofs.Puts.{puts_hold, puts_stay}
use Rattle.rtps_frags.proofs.Whole.{IsFrom, and_first, and_second, from_all}

pub none_wrong : (z : Sizes) (payload : List ℕ) (p : Part) → IsPartOf z payload p → Faultless z p.start p.count (length p.octets)
none_wrong z payload p h = faultless z p.start p.count (length p.octets) (ap is_some h.faultless)

in_order : (z : Sizes) (payload : List ℕ) (ps : List Part) → AllByRecursion (IsPartOf z payload) ps → AreFragments z 0 (there_after z ps)
in_order z payload [] h = tt
in_order z payload (p ∷ ps) h =
    let f = none_wrong z payload p h.0 in
    puts_stay z p.start p.octets (there_after z ps) p.start p.count f.first f.within (fits z p.start p.count p.octets f) (in_order z payload ps h.1)

of_payload : (z : Sizes) (payload : List ℕ) (ps : List Part) → AllByRecursion (IsPartOf z payload) ps → AllByRecursion (λ f. f.1 ≡ fragment_in z 1 payload f.0) (there_after z ps)
of_payload z payload [] h = tt
of_payload z payload (p ∷ ps) h = puts_hold (λ k octets. octets ≡ fragment_in z 1 payload k) z p.start p.octets (there_after z ps) p.start p.count h.0.same (of_payload z payload ps h.1)

module _ (z : Sizes) (cut : 0 < z.fragment) (payload : List ℕ) (size : length payload ≡ z.sample) where
  payload_from : (k n : ℕ) (there : There) → 1 ≤ k → k + n ≡ suc (last_of z) → IsFrom z k n there → AllByRecursion (λ f. f.1 ≡ fragment_in z 1 payload f.0) there → payload_of there ≡ drop (before z k) payload
  payload_from k zero [] one e from all =
      let reach : z.sample ≤ before z (suc (last_of z)) = reaches z cut in
      let end : before z k ≡ before z (suc (last_of z)) = (let is : k ≡ suc (last_of z) = omega arith in ap (before z) is) in
      sym (drop_all (before z k) payload (omega (arith, reach, end, size)))
  payload_from k zero (f ∷ fs) one e from all = absurd from
  payload_from k (suc n) [] one e from all = absurd from
  payload_from k (suc n) (f ∷ fs) one e from all =
      let rest : payload_of fs ≡ drop (before z (suc k)) payload = payload_from (suc k) n fs (omega arith) (omega arith) from.2 all.1 in
      let here : f.1 ≡ fragment_in z 1 payload k = all.0 ∙ ap (fragment_in z 1 payload) from.0 in
      rw (here, rest) (piece_then z cut payload size k one (omega arith))

pub some_octets : (z : Sizes) → not (is_empty z) ≡ true → 0 < z.fragment
some_octets z h = grind (arith, nat_tests)

pub any_order : AnyOrderGivesThePayload
any_order z payload chunks size each whole =
    let cut : 0 < z.fragment = some_octets z (and_first (not (is_empty z)) (has_all (there_after z chunks) 1 (last_of z)) whole) in
    let all : has_all (there_after z chunks) 1 (last_of z) ≡ true = and_second (not (is_empty z)) (has_all (there_after z chunks) 1 (last_of z)) whole in
    let from : IsFrom z 1 (last_of z) (there_after z chunks) = from_all z 0 (last_of z) (there_after z chunks) (omega arith) (in_order z payload chunks each) all in
    let start : before z 1 ≡ 0 = before_first z in
    payload_from z cut payload size 1 (last_of z) (there_after z chunks) (omega arith) (omega arith) from (of_payload z payload chunks each) ∙ ap (λ n. drop n payload) start
