-- What a plan asks of blocks, as a struct.
use Rattle.std.specs.Prelude.{◌≡◌, false, cond, []}
use Rattle.rules.specs.Grammar.{tf, tr, two}
use Rattle.rules.specs.Plan.{Plan, selects, record_length, block_length}
use Rattle.rules.specs.Lent.{zone_f}
use Rattle.terms.specs.Meaning.{format_of}
use Rattle.pieces.specs.declared.Form.{Form}

-- the struct says what the plan asks
pub record FormIs (form : Form) (p : Plan) : Type 0 where
  pub format : format_of form.format ≡ p.format
  pub n : form.n ≡ record_length p.input
  pub m : form.m ≡ block_length p.input
  pub selects : form.selects ≡ selects p.mode

-- a plan that asks this of blocks: the rules ask nothing else of a block
unfoldable pub plan_by : Form → Plan
plan_by form =
    record {
      zone = zone_f;
      mode = cond form.selects tf tr;
      format = format_of form.format;
      input = two form.n form.m;
      output = two form.n form.m;
      first = 1;
      fields = [];
      carries = false;
    }
