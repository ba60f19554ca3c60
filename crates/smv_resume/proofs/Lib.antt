mod RoomLaws
mod UnitLaws
mod KeptLaws
