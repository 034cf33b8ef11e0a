mod Sitting
