-- Readers and matches by their ranks, from 0 on.
use Rattle.std.proofs.Common.{◌≡◌, ◌∙◌, ℕ, ◌+◌, List, [], ◌∷◌, ◌++◌, map, Option, Some, None, refl, sym, ap, ap₂, arith}
use Rattle.std.specs.List.{range_with_len}
use Rattle.std.proofs.lemmas.List.{map-append}
use Rattle.std.proofs.lemmas.List.FromFn.{map-range_with_len_more}
use Rattle.clap.specs.Words.{Text}
use Rattle.rtps_discovery.specs.declared.config.ReaderConfig.{ReaderConfig}
use Rattle.rtps_discovery.specs.Start.{wish_of}
use Rattle.rtps_types.specs.declared.identity.Guid.{Guid}
use Rattle.rtps_bench.specs.Configs.{match_at, match_of, matches_of, reader_of, readers_of}

-- one rank more
ranks_more : {X : Type 0} (f : ℕ → X) (n : ℕ) → map f (range_with_len 0 (n + 1)) ≡ map f (range_with_len 0 n) ++ f n ∷ []
ranks_more f n = map-range_with_len_more f 0 n n (omega arith)

-- and one reader more
pub readers_more : (all before : List ReaderConfig) (last : ReaderConfig) (topic : Text) (topics n : ℕ) → all ≡ before ++ last ∷ []
    → map wish_of before ≡ readers_of topic topics n → wish_of last ≡ reader_of topic topics n → map wish_of all ≡ readers_of topic topics (n + 1)
readers_more all before last topic topics n more have is =
    ap (map wish_of) more ∙ map-append wish_of before (last ∷ []) ∙ ap₂ (λ xs x. xs ++ x ∷ []) have is ∙ sym (ranks_more (reader_of topic topics) n)

-- and one more match of each, where there is a writer
pub matches_more : (writer : Option Guid) (n : ℕ) → matches_of writer (n + 1) ≡ matches_of writer n ++ match_at writer n
matches_more None n = refl
matches_more (Some writer) n = ranks_more (match_of writer) n
