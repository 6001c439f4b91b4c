use Rattle.std.proofs.Common.{◌<◌, ◌^◌, length, arith}
use Rattle.object_alloc.specs.Walk.{objects}
use Rattle.config_json.proofs.OwnText.{none_missing, values_back}
use Rattle.config_json.proofs.WordTexts.{texts_of_words}
use Rattle.config_json.proofs.law.own_json_gives_values.Goals as goal

pub returns : goal.returns
returns c =
    let o = c.args.objects.now in
    let sound = c.count-count.ensures.sound in
    let few : length (objects o) < 2 ^ 32 = (let most = c.count-count.ensures.limits.objects in omega (arith, most)) in
    let texts = texts_of_words o sound few c.requires.words in
    record {
      hints = values_back o sound few texts c.args.config.now c.requires.config c.requires.sets;
      whole = none_missing o sound few texts c.args.config.now c.requires.config c.requires.sets;
    }
