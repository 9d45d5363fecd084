-- A buffer, and runs that lie in it or have octets of their own.
use Rattle.std.proofs.Common.{◌≡◌, ℕ, zero, suc, ◌+◌, ◌-◌, ◌*◌, ◌<◌, ◌≤◌, false, ◌&&◌, ◌||◌, cond, List, [], ◌∷◌, ◌++◌, length, take, drop, refl, sym, ◌∙◌, ap, arith, ltb, leb, inl, Some}
use Rattle.std.specs.Prelude.{is_some}
use Rattle.std.specs.BTreeMap.{insert_entry}
use Rattle.std.specs.Map.{lookup, set_value}
use Rattle.std.specs.Ordering.{nat_cmp}
use Rattle.std.proofs.lemmas.List.{drop-drop, length-drop, length-take, take_all}
use Rattle.std.proofs.Math.Nat.{suc-mul}
use Rattle.std.proofs.Math.Seq.{take-add}
use Rattle.rtps_frags.specs.declared.sizes.Sizes.{Sizes}
use Rattle.rtps_frags.specs.Buffer.{AreNew, AreStored, IsPutAt, front_in, if_none, octets_in, own_or, placed, runs_in, stored_at, stretch}
use Rattle.rtps_frags.specs.Fragments.{before, fragment_in, last_of, length_of, upto}
use Rattle.rtps_frags.specs.Longer.{longer_by}
use Rattle.rtps_frags.specs.Runs.{AreApart, AreKept, Fits, Run, Runs, covers, kept_at, starts_at}
use Rattle.rtps_frags.proofs.Assembled.{size_is}
use Rattle.rtps_frags.proofs.Cuts.{before_rises, goes_on, low_end, upto_rises}
use Rattle.rtps_frags.proofs.Fronts.{behind_free, behind_one, first_of, front_finds, later_finds, later_put, longer, later, not_covered}
use Rattle.rtps_frags.proofs.Longer.{IsExtended, extended_finds, extended_kept, is_one, low_one, starts}
use Rattle.rtps_frags.proofs.Placed.{apart_in, covers_in, lookup_in, own_is, own_none, placed_insert, placed_set, placed_within, run_in, runs_insert, runs_same, runs_set, starts_in, upto_low}
use Rattle.rtps_frags.proofs.Runs.{kept_is, none_below, weaken}

before_more : (z : Sizes) (k : ℕ) → 1 ≤ k → before z k + z.fragment ≡ before z (suc k)
before_more z zero one = absurd (omega arith)
before_more z (suc k) one = sym (suc-mul k z.fragment)

-- a fragment is stored where the front or a run has it
pub stored_is : (z : Sizes) (next : ℕ) (buffer : List ℕ) (rs : Runs) (k : ℕ) → is_some (stored_at z next buffer rs k) ≡ ((leb 1 k && ltb k next) || covers rs k)
stored_is z next buffer rs k = kept_is z next (front_in z next buffer) (runs_in z buffer rs) k ∙ ap (λ b. (leb 1 k && ltb k next) || b) (covers_in z buffer rs k)

module _ (z : Sizes) (cut : 0 < z.fragment) (next there : ℕ) (buffer : List ℕ) (rs : Runs) where
  -- what came is no more than the sample
  pub there_within : (low : ℕ) → 1 ≤ next → next ≤ low → AreStored z low next there buffer rs → there ≤ z.sample
  there_within low one le h =
      let rest : placed z rs + upto z (low - 1) ≤ z.sample = placed_within z cut buffer rs low (omega arith) h.kept.apart h.kept.fits in
      let rises : upto z (next - 1) ≤ upto z (low - 1) = upto_rises z (next - 1) (low - 1) (omega arith) in
      omega (arith, rest, rises, h.counted)

  -- the front lies in the buffer
  pub front_within : (low : ℕ) → AreStored z low next there buffer rs → upto z (next - 1) ≤ length buffer
  front_within low h =
      let full : length (take (upto z (next - 1)) buffer) ≡ upto z (next - 1) = h.kept.full in
      omega (arith, full, length-take (upto z (next - 1)) buffer)

  -- the same, of runs that are after a later fragment
  pub from_low : (low high : ℕ) → AreStored z low next there buffer rs → AreApart high (runs_in z buffer rs) → AreStored z high next there buffer rs
  from_low low high h apart = record {
    kept = record { begun = h.kept.begun; reached = h.kept.reached; full = h.kept.full; apart = apart; fits = h.kept.fits };
    counted = h.counted;
    within = h.within;
    filled = h.filled;
  }

  -- as they are where the fragments before the runs are named anew, and where no run begins with the least missing one
  pub weakened : (low high : ℕ) → AreStored z high next there buffer rs → low ≤ high → AreStored z low next there buffer rs
  weakened low high h le = from_low high low h (weaken (runs_in z buffer rs) high low h.kept.apart le)

  pub all_joined : AreStored z next next there buffer rs → starts_at next rs ≡ false → AreStored z (suc next) next there buffer rs
  all_joined h none = from_low next (suc next) h (behind_one (runs_in z buffer rs) next h.kept.apart (starts_in z buffer rs next ∙ none))

  -- fragments from the least missing one on are put in the buffer
  module _ (count : ℕ) (octets new : List ℕ) (some : 1 ≤ count) (within_it : next + count ≤ last_of z + 1) (fits : length octets ≡ length_of z next count)
      (h : AreStored z (next + count) next there buffer rs) (put : IsPutAt (before z next) octets buffer new) where
    reached : next + count ≤ suc (last_of z)
    reached = omega (arith, within_it)

    begin : upto z (next - 1) ≡ before z next
    begin = low_end z cut next h.kept.begun (omega (arith, reached, some))

    goes : before z next ≤ upto z (next + count - 1)
    goes =
        let here : before z next ≤ upto z next = goes_on z cut next (omega (arith, reached, some)) in
        let rest : upto z next ≤ upto z (next + count - 1) = upto_rises z next (next + count - 1) (omega (arith, some)) in
        omega (arith, here, rest)

    next_same : runs_in z new rs ≡ runs_in z buffer rs
    next_same = runs_same z next count octets buffer new some fits put rs (next + count) h.kept.apart h.kept.fits (λ k le l. none_below (runs_in z buffer rs) (next + count) k h.kept.apart l)

    next_front : front_in z (next + count) new ≡ front_in z next buffer ++ octets
    next_front =
        let split : upto z (next + count - 1) ≡ upto z (next - 1) + length octets = omega (arith, begin, goes, fits) in
        let low : take (upto z (next - 1)) new ≡ take (upto z (next - 1)) buffer = put.others 0 (upto z (next - 1)) h.kept.full (inl (omega (arith, begin))) in
        let high : take (length octets) (drop (upto z (next - 1)) new) ≡ octets = ap (λ n. take (length octets) (drop n new)) begin ∙ put.there in
        ap (λ n. take n new) split ∙ take-add (upto z (next - 1)) (length octets) new ∙ rw (low, high) refl

    pub next_stored : AreStored z (next + count) (next + count) (there + length octets) new rs
    next_stored = record {
      kept = rw (next_front, next_same) (record {
        begun = (let begun = h.kept.begun in omega (arith, begun));
        reached = reached;
        full = longer z cut next count (front_in z next buffer) octets h.kept.begun some reached h.kept.full fits;
        apart = h.kept.apart;
        fits = h.kept.fits;
      });
      counted = omega (arith, h.counted, begin, goes, fits);
      within = omega (arith, put.size, h.within, goes, fits);
      filled = omega (arith, put.size, h.filled, begin, front_within (next + count) h);
    }

    pub next_finds : (k : ℕ) → stored_at z (next + count) new rs k ≡ cond (leb next k && ltb k (next + count)) (Some (fragment_in z next octets k)) (stored_at z next buffer rs k)
    next_finds k = rw (next_front, next_same) (front_finds z cut next count (front_in z next buffer) octets h.kept.begun some reached h.kept.full fits (runs_in z buffer rs) k)

-- a run that begins with the least missing fragment
module _ (z : Sizes) (cut : 0 < z.fragment) (next there : ℕ) (buffer : List ℕ) (run : Run) (rs : Runs) (h : AreStored z next next there buffer ((next, run) ∷ rs)) where
  pub first_some : 1 ≤ run.count
  first_some = h.kept.apart.1

  pub first_within : next + run.count ≤ last_of z + 1
  first_within = let end : next + run.count ≤ suc (last_of z) = h.kept.fits.0.0 in omega (arith, end)

  first_fits : length (octets_in z buffer (next, run)) ≡ length_of z next run.count
  first_fits = h.kept.fits.0.1

  begins : upto z (next - 1) ≡ before z next
  begins = low_end z cut next h.kept.begun (let end : next + run.count ≤ suc (last_of z) = h.kept.fits.0.0 in omega (arith, first_some, end))

  -- the others, without it
  others : if_none run.octets (length_of z next run.count) ≡ 0 → AreStored z (next + run.count) next there buffer rs
  others none = record {
    kept = record { begun = h.kept.begun; reached = h.kept.reached; full = h.kept.full; apart = h.kept.apart.2; fits = h.kept.fits.1 };
    counted = omega (arith, h.counted, none);
    within = h.within;
    filled = h.filled;
  }

  pub own_left : (run.octets ≡ [] → ⊥) → AreStored z (next + run.count) next there buffer rs
  own_left some = others (by_octets run.octets some)
    where
      by_octets : (octets : List ℕ) → (octets ≡ [] → ⊥) → if_none octets (length_of z next run.count) ≡ 0
      by_octets [] e = absurd (e refl)
      by_octets (x ∷ xs) e = refl

  own_octets : (run.octets ≡ [] → ⊥) → octets_in z buffer (next, run) ≡ run.octets
  own_octets some = by_octets run.octets some
    where
      by_octets : (octets : List ℕ) → (octets ≡ [] → ⊥) → own_or octets (stretch (before z next) (length_of z next run.count) buffer) ≡ octets
      by_octets [] e = absurd (e refl)
      by_octets (x ∷ xs) e = refl

  pub own_fits : (run.octets ≡ [] → ⊥) → length run.octets ≡ length_of z next run.count
  own_fits some = sym (ap length (own_octets some)) ∙ first_fits

  pub own_finds : (run.octets ≡ [] → ⊥) → (k : ℕ) → cond (leb next k && ltb k (next + run.count)) (Some (fragment_in z next run.octets k)) (stored_at z next buffer rs k) ≡ stored_at z next buffer ((next, run) ∷ rs) k
  own_finds some k = rw (own_octets some) (first_of z next run.count (front_in z next buffer) run.octets (runs_in z buffer rs) k)

  -- one that lies in the buffer is there already
  module _ (none : run.octets ≡ []) where
    placed_octets : octets_in z buffer (next, run) ≡ stretch (before z next) (length_of z next run.count) buffer
    placed_octets = ap (λ (xs : List ℕ). own_or xs (stretch (before z next) (length_of z next run.count) buffer)) none

    rises : before z next ≤ upto z (next + run.count - 1)
    rises =
        let end : next + run.count ≤ suc (last_of z) = h.kept.fits.0.0 in
        let here : before z next ≤ upto z next = goes_on z cut next (omega (arith, first_some, end)) in
        let rest : upto z next ≤ upto z (next + run.count - 1) = upto_rises z next (next + run.count - 1) (omega (arith, first_some)) in
        omega (arith, here, rest)

    front_is : front_in z (next + run.count) buffer ≡ front_in z next buffer ++ octets_in z buffer (next, run)
    front_is =
        let split : upto z (next + run.count - 1) ≡ upto z (next - 1) + length_of z next run.count = omega (arith, begins, rises) in
        ap (λ n. take n buffer) split ∙ take-add (upto z (next - 1)) (length_of z next run.count) buffer
        ∙ ap (λ n. front_in z next buffer ++ take (length_of z next run.count) (drop n buffer)) begins
        ∙ ap (λ (xs : List ℕ). front_in z next buffer ++ xs) (sym placed_octets)

    pub placed_joined : AreStored z (next + run.count) (next + run.count) there buffer rs
    placed_joined = record {
      kept = rw front_is (record {
        begun = (let begun = h.kept.begun in omega (arith, begun));
        reached = h.kept.fits.0.0;
        full = longer z cut next run.count (front_in z next buffer) (octets_in z buffer (next, run)) h.kept.begun first_some h.kept.fits.0.0 h.kept.full first_fits;
        apart = h.kept.apart.2;
        fits = h.kept.fits.1;
      });
      counted =
          let count : if_none run.octets (length_of z next run.count) ≡ length_of z next run.count = ap (λ (xs : List ℕ). if_none xs (length_of z next run.count)) none in
          omega (arith, h.counted, count, begins, rises);
      within = h.within;
      filled = h.filled;
    }

    pub placed_finds : (k : ℕ) → stored_at z (next + run.count) buffer rs k ≡ stored_at z next buffer ((next, run) ∷ rs) k
    placed_finds k =
        rw front_is (front_finds z cut next run.count (front_in z next buffer) (octets_in z buffer (next, run)) h.kept.begun first_some h.kept.fits.0.0 h.kept.full first_fits (runs_in z buffer rs) k)
        ∙ first_of z next run.count (front_in z next buffer) (octets_in z buffer (next, run)) (runs_in z buffer rs) k

-- fragments after the least missing one of which none is there
module _ (z : Sizes) (cut : 0 < z.fragment) (next there : ℕ) (buffer : List ℕ) (rs : Runs) (h : AreStored z (suc next) next there buffer rs) (start count : ℕ) (octets : List ℕ) (new : AreNew z next buffer rs start count octets) where
  within_it : start + count ≤ last_of z + 1
  within_it = let within = new.within in omega (arith, within)

  -- no run has them
  pub free_in : (k : ℕ) → start ≤ k → k < start + count → covers (runs_in z buffer rs) k ≡ false
  free_in k le l = (not_covered z next (front_in z next buffer) (runs_in z buffer rs) k (new.none k le l)).1

  free_of : (k : ℕ) → start ≤ k → k < start + count → covers rs k ≡ false
  free_of k le l = sym (covers_in z buffer rs k) ∙ free_in k le l

  -- where they begin with the least missing one
  pub free_next : start ≡ next → AreStored z (next + count) next there buffer rs
  free_next same = from_low z cut next there buffer rs (suc next) (next + count) h
      (behind_free (runs_in z buffer rs) (suc next) (next + count) h.kept.apart (λ k le l. free_in k (omega (arith, same, le)) (omega (arith, same, l))))

  pub behind : (start ≡ next → ⊥) → next < start
  behind differ = later z cut next (front_in z next buffer) (runs_in z buffer rs) h.kept start count octets new.first new.some within_it new.fits new.none differ

  begins_low : before z start ≤ upto z (start + count - 1)
  begins_low =
      let within = new.within in
      let some = new.some in
      let here : before z start ≤ upto z start = goes_on z cut start (omega (arith, within, some)) in
      let rest : upto z start ≤ upto z (start + count - 1) = upto_rises z start (start + count - 1) (omega (arith, some)) in
      omega (arith, here, rest)

  -- their place is in the sample
  pub place_within : before z start + length octets ≤ z.sample
  place_within = let fits = new.fits in omega (arith, begins_low, fits)

  module _ (later_than : next < start) where
    differ : start ≡ next → ⊥
    differ e = absurd (omega (arith, later_than, e))

    -- they are put in a run
    pub run_put : AreKept z (suc next) next (front_in z next buffer) (insert_entry nat_cmp (runs_in z buffer rs) start (record { count = count; octets = octets }))
    run_put = later_put z cut next (front_in z next buffer) (runs_in z buffer rs) h.kept start count octets new.first new.some within_it new.fits new.none differ

    run_finds : (k : ℕ) → kept_at z next (front_in z next buffer) (insert_entry nat_cmp (runs_in z buffer rs) start (record { count = count; octets = octets })) k
        ≡ cond (leb start k && ltb k (start + count)) (Some (fragment_in z start octets k)) (stored_at z next buffer rs k)
    run_finds = later_finds z cut next (front_in z next buffer) (runs_in z buffer rs) h.kept start count octets new.first new.some within_it new.fits new.none differ

    -- in octets of its own
    own_runs : runs_in z buffer (insert_entry nat_cmp rs start (record { count = count; octets = octets })) ≡ insert_entry nat_cmp (runs_in z buffer rs) start (record { count = count; octets = octets })
    own_runs = runs_insert z buffer rs start (record { count = count; octets = octets })
        ∙ ap (λ (xs : List ℕ). insert_entry nat_cmp (runs_in z buffer rs) start (record { count = count; octets = xs })) (own_is octets buffer (before z start) (length_of z start count) new.fits)

    pub own_stored : AreStored z (suc next) next there buffer (insert_entry nat_cmp rs start (record { count = count; octets = octets }))
    own_stored = record {
      kept = rw own_runs run_put;
      counted =
          let more = placed_insert z start (record { count = count; octets = octets }) new.some rs (suc next) (apart_in z buffer rs (suc next) h.kept.apart) free_of in
          let none : if_none octets (length_of z start count) ≡ 0 = own_none octets (length_of z start count) new.fits in
          omega (arith, h.counted, more, none);
      within = h.within;
      filled = h.filled;
    }

    pub own_put : (k : ℕ) → stored_at z next buffer (insert_entry nat_cmp rs start (record { count = count; octets = octets })) k
        ≡ cond (leb start k && ltb k (start + count)) (Some (fragment_in z start octets k)) (stored_at z next buffer rs k)
    own_put k = rw own_runs (run_finds k)

    -- or in the buffer
    module _ (now : List ℕ) (put : IsPutAt (before z start) octets buffer now) where
      pub front_same : front_in z next now ≡ front_in z next buffer
      front_same =
          let low : upto z (next - 1) ≤ before z start = upto_low z (next - 1) start (omega (arith, later_than)) in
          put.others 0 (upto z (next - 1)) h.kept.full (inl (omega (arith, low)))

      pub others_same : runs_in z now rs ≡ runs_in z buffer rs
      others_same = runs_same z start count octets buffer now new.some new.fits put rs (suc next) h.kept.apart h.kept.fits free_in

      placed_runs : runs_in z now (insert_entry nat_cmp rs start (record { count = count; octets = [] })) ≡ insert_entry nat_cmp (runs_in z buffer rs) start (record { count = count; octets = octets })
      placed_runs =
          let is : stretch (before z start) (length_of z start count) now ≡ octets = ap (λ n. stretch (before z start) n now) (sym new.fits) ∙ put.there in
          runs_insert z now rs start (record { count = count; octets = [] })
          ∙ ap (λ (l : Runs). insert_entry nat_cmp l start (run_in z now start (record { count = count; octets = [] }))) others_same
          ∙ ap (λ (xs : List ℕ). insert_entry nat_cmp (runs_in z buffer rs) start (record { count = count; octets = xs })) is

      pub placed_stored : before z start + length octets ≤ 2 * (there + length octets) → AreStored z (suc next) next (there + length octets) now (insert_entry nat_cmp rs start (record { count = count; octets = [] }))
      placed_stored few = record {
        kept = rw (front_same, placed_runs) run_put;
        counted =
            let more = placed_insert z start (record { count = count; octets = [] }) new.some rs (suc next) (apart_in z buffer rs (suc next) h.kept.apart) free_of in
            let fits = new.fits in
            omega (arith, h.counted, more, fits);
        within = omega (arith, put.size, h.within, place_within);
        filled = omega (arith, put.size, h.filled, few);
      }

      pub placed_put : (k : ℕ) → stored_at z next now (insert_entry nat_cmp rs start (record { count = count; octets = [] })) k
          ≡ cond (leb start k && ltb k (start + count)) (Some (fragment_in z start octets k)) (stored_at z next buffer rs k)
      placed_put k = rw (front_same, placed_runs) (run_finds k)

  -- they are put after the run that starts with a fragment, which ends before them
  module _ (first : ℕ) (run : Run) (found : lookup (starts first) rs ≡ Some run) (ends : first + run.count ≡ start) where
    low : (suc next ≤ first) × (0 < run.count)
    low = low_one first run rs (suc next) found (apart_in z buffer rs (suc next) h.kept.apart)

    fit : Fits z (first, run_in z buffer first run)
    fit = is_one first (run_in z buffer first run) (Fits z) (runs_in z buffer rs) (lookup_in z buffer rs first run found) h.kept.fits

    extended : (after : Runs) → after ≡ set_value (starts first) (runs_in z buffer rs) (longer_by (run_in z buffer first run) count octets) → IsExtended first start count octets (runs_in z buffer rs) after
    extended after is = record { run = run_in z buffer first run; found = lookup_in z buffer rs first run found; ends = ends; put = is }

    -- the run's octets are its own
    module _ (some : run.octets ≡ [] → ⊥) where
      own_first : (xs there : List ℕ) → (xs ≡ [] → ⊥) → (ys : List ℕ) → own_or (xs ++ ys) there ≡ xs ++ ys
      own_first [] there e ys = absurd (e refl)
      own_first (x ∷ xs) there e ys = refl

      own_same : (xs there : List ℕ) → (xs ≡ [] → ⊥) → own_or xs there ≡ xs
      own_same [] there e = absurd (e refl)
      own_same (x ∷ xs) there e = refl

      own_zero : (xs : List ℕ) → (xs ≡ [] → ⊥) → (ys : List ℕ) (m n : ℕ) → (if_none xs m ≡ 0) × (if_none (xs ++ ys) n ≡ 0)
      own_zero [] e ys m n = absurd (e refl)
      own_zero (x ∷ xs) e ys m n = (refl, refl)

      own_longer : runs_in z buffer (set_value (starts first) rs (longer_by run count octets)) ≡ set_value (starts first) (runs_in z buffer rs) (longer_by (run_in z buffer first run) count octets)
      own_longer =
          let new_is : octets_in z buffer (first, longer_by run count octets) ≡ run.octets ++ octets = own_first run.octets (stretch (before z first) (length_of z first (run.count + count)) buffer) some octets in
          let old_is : octets_in z buffer (first, run) ≡ run.octets = own_same run.octets (stretch (before z first) (length_of z first run.count) buffer) some in
          runs_set z buffer rs first (longer_by run count octets)
          ∙ ap (λ (xs : List ℕ). set_value (starts first) (runs_in z buffer rs) (record { count = run.count + count; octets = xs })) (new_is ∙ ap (λ (xs : List ℕ). xs ++ octets) (sym old_is))

      pub own_longer_stored : AreStored z (suc next) next there buffer (set_value (starts first) rs (longer_by run count octets))
      own_longer_stored = record {
        kept = extended_kept z cut next (front_in z next buffer) (runs_in z buffer rs) (runs_in z buffer (set_value (starts first) rs (longer_by run count octets))) h.kept first start count octets new.some within_it new.fits new.none (extended (runs_in z buffer (set_value (starts first) rs (longer_by run count octets))) own_longer);
        counted =
            let set = placed_set z first run (longer_by run count octets) rs found in
            let zero_all = own_zero run.octets some octets (length_of z first run.count) (length_of z first (run.count + count)) in
            omega (arith, h.counted, set, zero_all);
        within = h.within;
        filled = h.filled;
      }

      pub own_longer_put : (k : ℕ) → stored_at z next buffer (set_value (starts first) rs (longer_by run count octets)) k
          ≡ cond (leb start k && ltb k (start + count)) (Some (fragment_in z start octets k)) (stored_at z next buffer rs k)
      own_longer_put = extended_finds z cut next (front_in z next buffer) (runs_in z buffer rs) (runs_in z buffer (set_value (starts first) rs (longer_by run count octets))) h.kept first start count octets new.some within_it new.fits new.none (extended (runs_in z buffer (set_value (starts first) rs (longer_by run count octets))) own_longer)

    -- they lie in the buffer
    module _ (none : run.octets ≡ []) (now : List ℕ) (put : IsPutAt (before z start) octets buffer now) where
      abbrev pub longer_run : Run
      longer_run = record { count = run.count + count; octets = run.octets }

      behind_all : next < start
      behind_all = omega (arith, low, ends)

      -- where the run ends, the fragments begin
      place_is : before z first + length_of z first run.count ≡ before z start
      place_is =
          let within = new.within in
          let some = new.some in
          let end : upto z (start - 1) ≡ before z start = low_end z cut start new.first (omega (arith, within, some)) in
          let is : upto z (first + run.count - 1) ≡ upto z (start - 1) = ap (λ n. upto z (n - 1)) ends in
          let rises : before z first ≤ before z start = before_rises z first start (omega (arith, ends)) in
          omega (arith, end, is, rises)

      length_is : length_of z first (run.count + count) ≡ length_of z first run.count + length octets
      length_is =
          let fits = new.fits in
          let end : upto z (first + (run.count + count) - 1) ≡ upto z (start + count - 1) = (let e : first + (run.count + count) - 1 ≡ start + count - 1 = omega (arith, ends) in ap (λ n. upto z n) e) in
          omega (arith, fits, end, place_is, begins_low)

      octets_same : stretch (before z first) (length_of z first run.count) now ≡ octets_in z buffer (first, run)
      octets_same =
          let is : octets_in z buffer (first, run) ≡ stretch (before z first) (length_of z first run.count) buffer = ap (λ (xs : List ℕ). own_or xs (stretch (before z first) (length_of z first run.count) buffer)) none in
          let full : length (stretch (before z first) (length_of z first run.count) buffer) ≡ length_of z first run.count = ap length (sym is) ∙ fit.1 in
          put.others (before z first) (length_of z first run.count) full (inl (omega (arith, place_is))) ∙ sym is

      octets_longer : octets_in z now (first, longer_run) ≡ octets_in z buffer (first, run) ++ octets
      octets_longer =
          ap (λ (xs : List ℕ). own_or xs (stretch (before z first) (length_of z first (run.count + count)) now)) none
          ∙ ap (λ n. stretch (before z first) n now) length_is
          ∙ take-add (length_of z first run.count) (length octets) (drop (before z first) now)
          ∙ rw (octets_same, behind_it) refl
        where
          behind_it : take (length octets) (drop (length_of z first run.count) (drop (before z first) now)) ≡ octets
          behind_it =
              ap (λ (xs : List ℕ). take (length octets) xs) (drop-drop (length_of z first run.count) (before z first) now ∙ ap (λ n. drop n now) place_is)
              ∙ put.there

      placed_longer : runs_in z now (set_value (starts first) rs longer_run) ≡ set_value (starts first) (runs_in z buffer rs) (longer_by (run_in z buffer first run) count octets)
      placed_longer =
          runs_set z now rs first longer_run
          ∙ ap (λ (l : Runs). set_value (starts first) l (run_in z now first longer_run)) (others_same behind_all now put)
          ∙ ap (λ (xs : List ℕ). set_value (starts first) (runs_in z buffer rs) (record { count = run.count + count; octets = xs })) octets_longer

      -- the run ends in the buffer
      reach : before z start ≤ length buffer
      reach =
          let is : octets_in z buffer (first, run) ≡ stretch (before z first) (length_of z first run.count) buffer = ap (λ (xs : List ℕ). own_or xs (stretch (before z first) (length_of z first run.count) buffer)) none in
          let full : length (stretch (before z first) (length_of z first run.count) buffer) ≡ length_of z first run.count = ap length (sym is) ∙ fit.1 in
          let cut_off = length-take (length_of z first run.count) (drop (before z first) buffer) in
          let rest = length-drop (before z first) buffer in
          let more : before z (suc first) ≤ before z start = before_rises z (suc first) start (omega (arith, low, ends)) in
          let one_more : before z first + z.fragment ≡ before z (suc first) = before_more z first (omega (arith, low)) in
          omega (arith, full, cut_off, rest, place_is, more, one_more, cut)

      pub placed_longer_stored : AreStored z (suc next) next (there + length octets) now (set_value (starts first) rs longer_run)
      placed_longer_stored = record {
        kept = rw (front_same behind_all now put) (extended_kept z cut next (front_in z next buffer) (runs_in z buffer rs) (runs_in z now (set_value (starts first) rs longer_run)) h.kept first start count octets new.some within_it new.fits new.none (extended (runs_in z now (set_value (starts first) rs longer_run)) placed_longer));
        counted =
            let set = placed_set z first run longer_run rs found in
            let was : if_none run.octets (length_of z first run.count) ≡ length_of z first run.count = ap (λ (xs : List ℕ). if_none xs (length_of z first run.count)) none in
            let is : if_none run.octets (length_of z first (run.count + count)) ≡ length_of z first (run.count + count) = ap (λ (xs : List ℕ). if_none xs (length_of z first (run.count + count))) none in
            omega (arith, h.counted, set, was, is, length_is);
        within = omega (arith, put.size, h.within, place_within);
        filled = omega (arith, put.size, h.filled, reach);
      }

      pub placed_longer_put : (k : ℕ) → stored_at z next now (set_value (starts first) rs longer_run) k
          ≡ cond (leb start k && ltb k (start + count)) (Some (fragment_in z start octets k)) (stored_at z next buffer rs k)
      placed_longer_put k = rw (front_same behind_all now put) (extended_finds z cut next (front_in z next buffer) (runs_in z buffer rs) (runs_in z now (set_value (starts first) rs longer_run)) h.kept first start count octets new.some within_it new.fits new.none (extended (runs_in z now (set_value (starts first) rs longer_run)) placed_longer) k)

-- a buffer whose front is all of the sample
pub buffer_is : (z : Sizes) (cut : 0 < z.fragment) (next there : ℕ) (buffer : List ℕ) (rs : Runs) → AreStored z (suc next) next there buffer rs → last_of z < next → front_in z next buffer ≡ buffer
buffer_is z cut next there buffer rs h beyond =
    let size : length (front_in z next buffer) ≡ z.sample = size_is z next (front_in z next buffer) (runs_in z buffer rs) h.kept cut beyond in
    let full = h.kept.full in
    take_all (upto z (next - 1)) buffer (omega (arith, size, full, h.within))
