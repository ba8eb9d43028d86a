use Rattle.rt_text.specs.Forms.{forms}
use Rattle.rt_text.proofs.forms.look_up.form_of.Goals as goal

pub returns : goal.returns
unfolding forms
returns c = c.value_at.ensures
