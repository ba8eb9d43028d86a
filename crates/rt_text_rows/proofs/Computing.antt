-- What a row computes with, beside what those of rt_rows do.
use Rattle.rt_rows.proofs.Computing as rows
use Rattle.rt_image.specs.SystemFile.{task_spelling}
use lib.Count.{count_leading_zeros}
use Rattle.rt_isa.specs.Print.{operands, text}
use Rattle.rt_elf.specs.flat.FlatNames.{symbol_of, after_symbol}
use Rattle.rt_elf.specs.Fields.{number}
use Rattle.rt_elf.specs.ProgramHeaders.{header_at}
use Rattle.rt_elf.specs.SymbolTable.{section_header, entry}
use Rattle.rt_elf.specs.Refusals.{refusal}
use Rattle.rt_chart.specs.MarkText.{mark_text, bar_begin, bar_place, job_words, bar_title, path_text}
use Rattle.rt_chart.specs.Axis.{tick_label, upper_begin, grid_begin}
use Rattle.rt_chart.specs.Labels.{label_text}
use Rattle.rt_chart.specs.Key.{key_text}
use Rattle.rt_chart.specs.MissText.{miss_line, miss_title}
use Rattle.rt_chart.specs.ChartText.{group_text, base_text, label_words, left_label_text, stands_at, end_text, begin_text}
use Rattle.rt_waves.specs.WavesText.{variable}

unfoldable pub computing : Unit {0}
unfolding rows.computing count_leading_zeros task_spelling operands text number header_at section_header entry refusal symbol_of after_symbol tick_label key_text mark_text bar_begin bar_place job_words bar_title path_text miss_line miss_title group_text base_text label_text label_words left_label_text upper_begin grid_begin stands_at end_text begin_text variable
computing = tt
