-- Readers and matches by their ranks, from 0 on.
use Rattle.std.proofs.Common.{◌≡◌, ◌∙◌, ℕ, ◌+◌, ◌<◌, ◌≤◌, zero, suc, List, [], ◌∷◌, ◌++◌, map, Bool, true, false, Option, Some, None, refl, sym, ap, ap₂, arith}
use Rattle.std.specs.List.{list_any, range_with_len}
use Rattle.std.proofs.lemmas.List.{map-append}
use Rattle.std.proofs.lemmas.List.FromFn.{map-range_with_len_more}
use Rattle.rtps_discovery.specs.Config.{has_twice}
use Rattle.rtps_discovery.specs.declared.config.ReaderConfig.{ReaderConfig}
use Rattle.rtps_discovery.specs.Start.{wish_of}
use Rattle.rtps_types.specs.declared.identity.Guid.{Guid}
use Rattle.rtps_listen.specs.declared.options.Options.{Options}
use Rattle.rtps_listen.specs.Configs.{match_at, match_of, matches_of, reader_of, readers_of}

-- one rank more
pub ranks_more : {X : Type 0} (f : ℕ → X) (n : ℕ) → map f (range_with_len 0 (n + 1)) ≡ map f (range_with_len 0 n) ++ f n ∷ []
ranks_more f n = map-range_with_len_more f 0 n n (omega arith)

-- and one reader more
pub readers_more : (all before : List ReaderConfig) (last : ReaderConfig) (options : Options) (n : ℕ) → all ≡ before ++ last ∷ []
    → map wish_of before ≡ readers_of options n → wish_of last ≡ reader_of options n
    → map wish_of all ≡ readers_of options (n + 1)
readers_more all before last options n more have is =
    ap (map wish_of) more ∙ map-append wish_of before (last ∷ []) ∙ ap₂ (λ xs x. xs ++ x ∷ []) have is ∙ sym (ranks_more (reader_of options) n)

-- and one more match of each, where there is a writer
pub matches_more : (writer : Option Guid) (n : ℕ) → matches_of writer (n + 1) ≡ matches_of writer n ++ match_at writer n
matches_more None n = refl
matches_more (Some writer) n = ranks_more (match_of writer) n

-- no item of some ranks passes a test
pub no_rank_passes : {X : Type 0} (p : X → Bool) (f : ℕ → X) (a n : ℕ) → ((k : ℕ) → a ≤ k → k < a + n → p (f k) ≡ false) → list_any p (map f (range_with_len a n)) ≡ false
no_rank_passes p f a zero fails = refl
no_rank_passes p f a (suc n) fails =
    rw (fails a (omega arith) (omega arith)) (no_rank_passes p f (a + 1) n (λ k above below. fails k (omega arith) (omega arith)))

-- the items of some ranks, one at least, pass a test all or none
pub each_rank_passes : {X : Type 0} (p : X → Bool) (f : ℕ → X) (n : ℕ) (b : Bool) → 1 ≤ n → ((k : ℕ) → k < n → p (f k) ≡ b) → list_any p (map f (range_with_len 0 n)) ≡ b
each_rank_passes p f zero b some same = absurd (omega arith)
each_rank_passes p f (suc n) true some same = rw (same 0 (omega arith)) refl
each_rank_passes p f (suc n) false some same = no_rank_passes p f 0 (suc n) (λ k above below. same k (omega arith))

-- items that differ by their ranks aren't listed twice
pub ranks_differ : {X : Type 0} (same : X → X → Bool) (f : ℕ → X) (a n : ℕ) → ((i j : ℕ) → i < j → same (f i) (f j) ≡ false) → has_twice same (map f (range_with_len a n)) ≡ false
ranks_differ same f a zero differ = refl
ranks_differ same f a (suc n) differ =
    rw (no_rank_passes (same (f a)) f (a + 1) n (λ k above below. differ a k (omega arith))) (ranks_differ same f (a + 1) n differ)
