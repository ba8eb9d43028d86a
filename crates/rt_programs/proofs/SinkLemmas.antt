-- What an open sink took that stays as it is.
use Rattle.rt_programs.proofs.Common.{◌≡◌, [], false, sym, subst, Seen}
use Rattle.std.proofs.KnownBytes.{Appends-nil}
use Rattle.rt_sink.specs.Sink.{Took}

pub took-nothing : {S : Type 0} (seen : S → Seen) (old new : S) → (seen old).failed ≡ false → new ≡ old → Took seen old [] new
took-nothing seen old new opened same =
    subst (Took seen old []) (sym same) (record { is_open = opened; took = Appends-nil (seen old).contents })
