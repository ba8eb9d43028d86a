-- Lines of pcs that are kept.
use Rattle.std.specs.Prelude.{◌≡◌, ◌≤◌, ◌++◌, take, codes, decimal}
use Rattle.rt_waves.specs.declared.kept.PcLine.{PcLine}
use Rattle.rt_waves.specs.declared.signals.Value.TheVariants.{Number}
use Rattle.rt_waves.specs.WavesText.{wave, line}

-- the text is the line of the task's pc
pub record IsPcLine (kept : PcLine) : Type 0 where
  pub few : kept.len ≤ 48
  pub text : take kept.len kept.text ≡ line (wave (codes "p" ++ decimal kept.number) (Number kept.pc))
