-- After the farewell nothing is announced.
use Rattle.std.proofs.Common.{◌≡◌, ◌∙◌, ℕ, List, [], ◌++◌, Option, None, Some, ap, append_assoc, append-nil, subst, sym}
use Rattle.std.specs.Prelude.{flat_map, option_map}
use Rattle.rtps_types.specs.declared.locator.Locator.{Locator}
use Rattle.rtps_records.specs.Speech.{HasLeft, Speech}
use Rattle.rtps_records.specs.Traffic.{Grows, Traffic}
use Rattle.rtps_udp.specs.Calls.{AnnouncesNothing, Call, announced_in, traffic_in, traffic_of}
use Rattle.dds_announced.specs.declared.voice.Voice.{Voice}
use Rattle.rtps_announced.specs.Announced.{AnnouncesMore, IsSilent, IsSilentBy, manner_of, speech_of}

-- the farewell was said, and all before it
pub silenced : (speech : Speech) (s t : ℕ) → t ≡ s → (a c : Option (List Call))
    (said : List (Locator × List ℕ)) → AnnouncesMore s a c said
    → HasLeft speech (traffic_in s a) (option_map announced_in c) → IsSilentBy speech t c
unfolding AnnouncesMore IsSilentBy
silenced speech s t same None c said announces left =
    subst (λ (x : Option (List Call)). IsSilentBy speech t x) (sym announces) tt
silenced speech s t same (Some x) None said announces left = absurd announces
silenced speech s t same (Some x) (Some y) said announces left = record {
  before = flat_map (traffic_of s) x;
  since = [];
  parts = ap (λ u. flat_map (traffic_of u) y) same ∙ announces.0
      ∙ sym (append-nil (flat_map (traffic_of s) x));
  all = left;
}

-- calls that announce nothing, where the sockets stay
pub silent_at : (v : Voice) (bound bound' : List ℕ) → bound' ≡ bound → (s t : ℕ) → t ≡ s
    → (a b : Option (List Call)) (more : List Traffic)
    → IsSilentBy (speech_of (manner_of v bound)) s a → AnnouncesNothing a b
    → Grows (traffic_in s a) (traffic_in t b) more
    → IsSilentBy (speech_of (manner_of v bound')) t b
unfolding IsSilentBy
silent_at v bound bound' here s t same None b more silent nothing grows =
    subst (λ (x : Option (List Call)). IsSilentBy (speech_of (manner_of v bound')) t x) (sym nothing) tt
silent_at v bound bound' here s t same (Some x) None more silent nothing grows = absurd nothing
silent_at v bound bound' here s t same (Some x) (Some y) more silent nothing grows =
    subst
    (λ (l : List ℕ). IsSilent (speech_of (manner_of v l)) (flat_map (traffic_of t) y) (announced_in y))
    (sym here)
    (record {
      before = silent.before;
      since = silent.since ++ more;
      parts = grows ∙ ap (λ (l : List Traffic). l ++ more) silent.parts
          ∙ append_assoc silent.before silent.since more;
      all = nothing ∙ silent.all;
    })
