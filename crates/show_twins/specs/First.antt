-- What is promised of the plan that takes the records from the first on.
use Rattle.terms.specs.declared.Asked.{Asked}

-- the struct with R as 1
abbrev pub asked_from_first : Asked → Asked
asked_from_first x =
    record {
      mode = x.mode;
      format = x.format;
      input = x.input;
      output = x.output;
      first = 1;
      count = x.count;
      fs = x.fs;
      cv = x.cv;
      key = x.key;
      keyed = x.keyed;
    }
